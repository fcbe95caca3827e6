-- The laws as the crates above cite them, each with the file that proves it.
use Rattle.std.proofs.Common.{◌≡◌, ◌≢◌, ℕ, true, false, Some, None, List, [], refl, sym, ◌∙◌, ap, subst, leb-true}
use Rattle.std.specs.Prelude.{if◌then◌else◌}
use Rattle.model.specs.State.{Kernel}
use Rattle.model.specs.Steps.{reply, IsNowhere}
use Rattle.model.specs.Entries.{Op, Entry, answer_in, is_inside}
use Rattle.model.specs.Forgetting.{Limit}
use Rattle.model.specs.Moments.{Setup, Status, gone, Moment, is_alive, is_in, status, has_free, numbers, calls_at, seen_by, after}
use Rattle.model.specs.Legal.{Free, RightAt, Right, Legal}
use Rattle.model.specs.Replies.{answered}
use Rattle.model.specs.Calls.{Call}
use Rattle.call_laws.proofs.Laws.{calls_are_lawful_lem}
use Rattle.history_laws.specs.Beginnings.{BeforeIsAnOrder, OwnEntriesFollow, LegalityFollows}
use Rattle.history_laws.specs.Causes.{DoomedAreToldTheirs, LosersAreToldTheirs}
use Rattle.history_laws.specs.Choices.{RightEntriesExist, EndsFindPlaces}
use Rattle.history_laws.specs.Untidied.{ListsAreTheirEffects}
use Rattle.history_laws.specs.Entered.{PhasesMove, OwnAndDoomedMove, ReservedPlacesMove, RestartsBeginAnew, CommitsRunTheList, PlainCallsRun, CallsGoIn, ListsStay}
use Rattle.history_laws.specs.Forgetting.{ForgettingIsLegal}
use Rattle.history_laws.specs.Headline.{IsSerializable, LegalHistoriesAreSerializable}
use Rattle.history_laws.specs.Histories.{RightEntriesKeepHistoriesLegal, CommittedIsSerial, PlacesSuffice, RepliesAreAFunction, RightEntriesHavePlaces, BeginningsAreLegal, OwnEntriesGrow, AfterOneMore, ViewsMayBeLoose, TouchedObjectsStay}
use Rattle.history_laws.specs.Limits.{LimitsAreKept, BoundsAreGiven}
use Rattle.history_laws.specs.Marks.{ModesFollowMarks}
use Rattle.history_laws.specs.Processes.{child_in, ChildrenAreForked, ForksAndExitsMove, UnmadeAreRefused}
use Rattle.history_laws.specs.Processes.{born as makes}
use Rattle.history_laws.specs.Standing.{WhatStands}
use Rattle.history_laws.specs.Trees.{IsATree, CommittedDirectoriesAreATree}
use Rattle.history_laws.proofs.Beginnings as beginnings
use Rattle.history_laws.proofs.Causes as causes
use Rattle.history_laws.proofs.Choices as choices
use Rattle.history_laws.proofs.Forgetting as forgetting
use Rattle.history_laws.proofs.Histories as histories
use Rattle.history_laws.proofs.Bounds as bounds
use Rattle.history_laws.proofs.Limits as limits
use Rattle.history_laws.proofs.Marks as marks
use Rattle.history_laws.proofs.Replies as replies
use Rattle.history_laws.proofs.Serializable as serializable
use Rattle.history_laws.proofs.Standing as standing
use Rattle.history_laws.proofs.Trees as trees
use Rattle.history_laws.proofs.calls.Outcomes as outcomes
use Rattle.history_laws.proofs.calls.Processes as call_processes
use Rattle.history_laws.proofs.entries.Forks as entry_forks
use Rattle.history_laws.proofs.entries.Lists as entry_lists
use Rattle.history_laws.proofs.entries.Moments as moments
use Rattle.history_laws.proofs.entries.Phases as phases
use Rattle.history_laws.proofs.entries.Processes as entry_processes
use Rattle.history_laws.proofs.lists.UntidiedRuns as runs
use Rattle.call_laws.specs.WellFormed.{WellFormed}

-- the empty history is legal
pub legal_start : (root : ℕ) (setup : Setup) (limit : Limit) → Legal root setup limit []
unfolding Legal
legal_start root setup limit q = refl

-- a history with one entry more comes to the next moment: Legality.antt
pub after_one_more : AfterOneMore
after_one_more = histories.one_more

-- a history goes on legally from where it stood: Beginnings.antt
pub legality_follows : LegalityFollows
legality_follows = beginnings.legality_follows

-- a history stays legal where its entries are forgotten: Forgetting.antt
pub forgetting_is_legal : ForgettingIsLegal
forgetting_is_legal = forgetting.forgetting_is_legal

-- each beginning of a legal history is legal: Legality.antt
pub beginnings_are_legal : BeginningsAreLegal
beginnings_are_legal = histories.beginnings

-- being a beginning is an order: Beginnings.antt
pub before_is_an_order : BeforeIsAnOrder
before_is_an_order = beginnings.before_is_an_order

-- one entry more is its process's and no other's: Histories.antt
pub own_entries_grow : OwnEntriesGrow
own_entries_grow = histories.own_entries

-- a process's entries go on as the history does: Beginnings.antt
pub own_entries_follow : OwnEntriesFollow
own_entries_follow = beginnings.own_entries_follow

-- replies and dooms are those that are computed: Replies.antt
pub replies_are_a_function : RepliesAreAFunction
replies_are_a_function = replies.replies_are_a_function

-- a right entry finds its places: Replies.antt
pub right_entries_have_places : RightEntriesHavePlaces
right_entries_have_places = replies.right_entries_have_places

-- an entry is right by its row
pub right_by : (limit : Limit) (m : Moment) (e : Entry) (s : Status) (op : Op) → status m e.pid ≡ s → e.op ≡ op → RightAt limit m e s op → Right limit m e
right_by limit m e s op is_s is_op right = subst (λ o. RightAt limit m e (status m e.pid) o) (sym is_op) (subst (λ x. RightAt limit m e x op) (sym is_s) right)

-- free places, by their test
pub free_from : (limit : Limit) (m : Moment) (needed : ℕ) → has_free limit m needed ≡ true → Free limit m needed
free_from limit m needed h = leb-true _ _ h

-- a living process's status is its phase
pub status_alive : (m : Moment) (q : ℕ) → is_alive m.committed q ≡ true → status m q ≡ m.phase q
status_alive m q alive = ap (λ b. if b then m.phase q else gone) alive

-- one whose status is not `gone` lives, and has it as its phase
pub phase_is : (m : Moment) (q : ℕ) (s : Status) → status m q ≡ s → s ≢ gone → m.phase q ≡ s
phase_is = moments.phase_is

pub alive_is : (m : Moment) (q : ℕ) (s : Status) → status m q ≡ s → s ≢ gone → is_alive m.committed q ≡ true
alive_is = moments.alive_is

-- the phases after a right entry, of any moment
pub phases_move : (limit : Limit) (m : Moment) (e : Entry) → Right limit m e → PhasesMove m e
phases_move = phases.phases_move

-- an entry moves its own process and those that it dooms: entries/Phases.antt
pub own_and_doomed_move : OwnAndDoomedMove
own_and_doomed_move = standing.own_and_doomed_move

-- a restart keeps flags and age, and forgets the calls: entries/OwnStatus.antt
pub restarts_begin_anew : RestartsBeginAnew
restarts_begin_anew = standing.restarts_begin_anew

-- a plain call does its edits on the committed state: entries/Lists.antt
pub plain_calls_run : PlainCallsRun
plain_calls_run = entry_lists.plain_calls_run

-- a list run untidied is its effects: entries/Lists.antt
pub lists_are_their_effects : ListsAreTheirEffects
lists_are_their_effects = entry_lists.loose_done

-- one right entry more keeps a history legal: Legality.antt
pub legal_push : RightEntriesKeepHistoriesLegal
legal_push = histories.legal calls_are_lawful_lem

-- the headline, that each legal history is strictly serializable: Serializable.antt
pub legal_histories_are_serializable : LegalHistoriesAreSerializable
legal_histories_are_serializable = serializable.serializable calls_are_lawful_lem

-- the committed directories are a tree: Trees.antt
pub committed_directories_are_a_tree : CommittedDirectoriesAreATree
committed_directories_are_a_tree = trees.committed_tree calls_are_lawful_lem

-- the same of a state that is known to be the committed one
pub serializable_at : (root : ℕ) (setup : Setup) (limit : Limit) (es : List Entry) (state : Kernel) → Legal root setup limit es → state ≡ (after root setup es).committed → IsSerializable root setup limit es state
serializable_at root setup limit es state legal is = subst (IsSerializable root setup limit es) (sym is) (legal_histories_are_serializable root setup limit es legal)

pub tree_at : (root : ℕ) (setup : Setup) (limit : Limit) (es : List Entry) (state : Kernel) → Legal root setup limit es → state ≡ (after root setup es).committed → IsATree state
tree_at root setup limit es state legal is = subst IsATree (sym is) (committed_directories_are_a_tree root setup limit es legal)

-- files, pipes, offsets and the count of processes stay within the limits: Limits.antt
pub limits_are_kept : LimitsAreKept
limits_are_kept = limits.limits calls_are_lawful_lem

-- each state has the bounds that were given at the start: Bounds.antt
pub bounds_are_given : BoundsAreGiven
bounds_are_given = bounds.bounds_are_given

-- the committed state is the run of the serial list: Legality.antt
pub the_committed_state_is_serial : CommittedIsSerial
the_committed_state_is_serial = histories.serial_is calls_are_lawful_lem

-- entries and reserved places stay within the limit: Legality.antt
pub places_suffice : PlacesSuffice
places_suffice = histories.places calls_are_lawful_lem

-- what a process sees may be held untidied: Histories.antt
pub views_may_be_loose : ViewsMayBeLoose
views_may_be_loose = histories.views calls_are_lawful_lem

-- an object that a live list touched does not go away: Histories.antt
pub touched_objects_stay : TouchedObjectsStay
touched_objects_stay = histories.touched calls_are_lawful_lem

-- each operation that finds its places has a right entry: NewNumbers.antt
pub right_entries_exist : RightEntriesExist
right_entries_exist = choices.right_entries_exist calls_are_lawful_lem

-- what needs no place has a right entry: Choices.antt
pub ends_find_places : EndsFindPlaces
ends_find_places = choices.ends_find_places calls_are_lawful_lem

-- what stands after each legal history: Standing.antt
pub what_stands : WhatStands
what_stands = standing.what_stands calls_are_lawful_lem

-- what an entry reserves and gives back: entries/Phases.antt
pub reserved_places_move : ReservedPlacesMove
reserved_places_move = standing.reserved_places_move calls_are_lawful_lem

-- a committed end runs its process's list: entries/Lists.antt
pub commits_run_the_list : CommitsRunTheList
commits_run_the_list = standing.commits_run_the_list calls_are_lawful_lem

-- an executed call of a transaction goes into its list: entries/OwnStatus.antt
pub calls_go_in : CallsGoIn
calls_go_in = standing.calls_go_in calls_are_lawful_lem

-- a list that an entry leaves does the same on the new committed state: entries/Lists.antt
pub lists_stay : ListsStay
lists_stay = standing.lists_stay calls_are_lawful_lem

-- forks make processes, exits end them: entries/Processes.antt
pub forks_and_exits_move : ForksAndExitsMove
forks_and_exits_move = entry_processes.forks_and_exits_move calls_are_lawful_lem

-- the entries of a process that was never made are refused: entries/Processes.antt
pub unmade_are_refused : UnmadeAreRefused
unmade_are_refused = entry_processes.unmade_are_refused calls_are_lawful_lem

-- each process that was not there at the start was made by a fork: entries/Forks.antt
pub children_are_forked : ChildrenAreForked
children_are_forked = entry_forks.children_are_forked calls_are_lawful_lem

-- a directory's list mode follows from its readers and writers: Marks.antt
pub modes_follow_marks : ModesFollowMarks
modes_follow_marks = marks.modes_follow_marks calls_are_lawful_lem

-- a doomed process is told a touch of its own that clashes: Causes.antt
pub doomed_are_told_theirs : DoomedAreToldTheirs
doomed_are_told_theirs = causes.doomed_are_told_theirs

-- a caller that loses is told why, and by whom: Causes.antt
pub losers_are_told_theirs : LosersAreToldTheirs
losers_are_told_theirs = causes.losers_are_told_theirs

-- the reply of a call that was made says its answer, since no plan refuses as unsupported
pub executed_again : (k : Kernel) (pid : ℕ) (call : Call) → answer_in (answered (reply k pid call)) ≡ Some (reply k pid call)
executed_again = outcomes.executed_again

-- a number that is nowhere in the committed state and not among those of a process's list is nowhere in what the process sees
pub nowhere_seen : (root : ℕ) (setup : Setup) (limit : Limit) (es : List Entry) → Legal root setup limit es → (q n : ℕ) → IsNowhere (after root setup es).committed n
    → is_in n (numbers (calls_at (after root setup es) q)) ≡ false → IsNowhere (seen_by (after root setup es) q) n
nowhere_seen root setup limit es legal q n none out =
    let m = after root setup es in
    let stands = (what_stands root setup limit es legal).lists q in
    let seen = (views_may_be_loose root setup limit es legal q).seen in
    subst (λ k. IsNowhere k n) (sym seen) (calls_are_lawful_lem.nowhere_tidy _ n (runs.goes_nowhere WellFormed calls_are_lawful_lem q m.committed (calls_at m q) n out none stands.goes))

-- a call that transactions support makes no process
pub childless : (k : Kernel) (pid : ℕ) (call : Call) → is_inside call ≡ true → (child_in (answered (reply k pid call)) ≡ None) × (makes (answered (reply k pid call)) ≡ 0)
childless k pid call inside =
    let said = entry_processes.said_child (answered (reply k pid call)) (reply k pid call) (outcomes.executed_again k pid call) in
    let none = call_processes.inside_childless k pid call inside in
    (said.0 ∙ none, said.1 ∙ call_processes.born_none (reply k pid call) none)
