-- A list of calls, run on states that are not tidied between them, and where it runs again.
use Rattle.std.proofs.Common.{◌≡◌, ◌≢◌, ℕ, List, [], ◌∷◌, ◌++◌, refl, sym, ◌∙◌, ap, ap₂, subst, true, false, Bool, ◌⊎◌, inl, inr, map, flat_map}
use Rattle.std.specs.Prelude.{⊤, nat_lt, ◌==◌, if◌then◌else◌, ◌+◌, ◌-◌, length}
use Rattle.std.specs.List.{AllByRecursion}
use Rattle.std.proofs.lemmas.Bool.{cases_Bool, both_ways}
use Rattle.model.specs.State.{Kernel}
use Rattle.model.specs.Aspects.{Aspect, Names, Size, Block, Links, Ends, Keeps}
use Rattle.model.specs.Plan.{blocks}
use Rattle.model.specs.Changes.{Edit, Make_directory, Make_file, Make_fixed, Name_file, Unname_file, Unname_directory, Swap, Wipe, Move, Put_bytes, Cut, Take, Append, Set_offset, Set_rights, Share_slot, Clear_slot, New_process, End_process, marks, all_applied, tidy, file_replaced}
use Rattle.model.specs.Calls.{Call, own}
use Rattle.model.specs.Steps.{Touch, reads, writes, reply, edits, touches, IsNowhere, CanBeChosen, Run}
use Rattle.call_laws.specs.Objects.{IsThere, LeavesAlone}
use Rattle.model.specs.Laws.{GoesTheSame}
use Rattle.model.specs.Entries.{Executed, is_inside}
use Rattle.model.specs.Clashes.{clash}
use Rattle.model.specs.Moments.{after_one, after_step, after_list, list_touches, numbers, is_alive, is_in}
use Rattle.model.specs.Legal.{items}
use Rattle.call_laws.specs.CallLaws.{IsReady, CallLaws, object_of}
use Rattle.model.proofs.Laws.{append-all}
use Rattle.call_laws.proofs.Laws.{keeps_self, keeps_on}
pub use Rattle.model.specs.Moments.{loose, loose_touches}
pub use Rattle.call_laws.specs.Untidied.{Goes}
use Rattle.model.specs.Effects.{Effect, effects}
use Rattle.history_laws.proofs.Membership.{In, In-left, In-right, In-cases, all_from, all_to, out_left, out_right, in_left, in_right, in_is, is_in_in}
use Rattle.history_laws.proofs.lists.Touches.{written, read, IsPlain, leaves_alone, Alike, reads_alike, writes_alike, In-write, of_touches}

abbrev pub AllInside : List Executed → Type 0
AllInside [] = ⊤
AllInside (e ∷ es) = (is_inside e.call ≡ true) × AllInside es

-- no number is chosen by two calls
abbrev pub Distinct : List Executed → Type 0
Distinct [] = ⊤
Distinct (e ∷ es) = ((n : ℕ) → is_in n e.chosen ≡ true → is_in n (numbers es) ≡ false) × Distinct es

-- the chosen numbers are nowhere in the state, and different
pub record Fresh (k : Kernel) (es : List Executed) : Type 0 where
  pub nowhere : (n : ℕ) → is_in n (numbers es) ≡ true → IsNowhere k n
  pub distinct : Distinct es

abbrev pub OwnAlike : Kernel → Kernel → ℕ → Type 0
OwnAlike k l pid = (c : Call) → is_inside c ≡ true → own l pid c ≡ own k pid c

-- the same numbers can be chosen in another state where they are nowhere
pub can_again : (k l : Kernel) (made : List Edit) (chosen : List ℕ) → CanBeChosen k made chosen → ((n : ℕ) → is_in n chosen ≡ true → IsNowhere l n) → CanBeChosen l made chosen
can_again k l made chosen can new = record { count = can.count; unused = all_from (IsNowhere l) chosen (λ n i. new n (in_is n chosen i)); different = can.different }

pub fresh_after : (Well : Kernel → Type 0) (laws : CallLaws Well) (l : Kernel) (pid : ℕ) (e : Executed) (es : List Executed) → IsReady Well l pid e.call e.chosen → Fresh l (e ∷ es) → Fresh (after_one pid e l) es
fresh_after Well laws l pid e es ready fresh = record { nowhere = nowhere; distinct = fresh.distinct.1 } where
  nowhere : (n : ℕ) → is_in n (numbers es) ≡ true → IsNowhere (after_one pid e l) n
  nowhere n h = laws.nowhere_after l pid e.call e.chosen ready n (elim (cases_Bool (is_in n e.chosen)) [
    | inl i ↦ absurd (both_ways (is_in n (numbers es)) (fresh.distinct.0 n i) h)
    | inr o ↦ o
  ]) (fresh.nowhere n (in_right n e.chosen (numbers es) h))

-- Where each call goes the same way in two states that are alike in some manner, and they stay so, the list runs from both.
pub simulated : (Well : Kernel → Type 0) (laws : CallLaws Well) (pid : ℕ) (R : Kernel → Kernel → List Executed → Type 0)
    → ((k l : Kernel) (e : Executed) (es : List Executed) → IsReady Well k pid e.call e.chosen → Well l → is_inside e.call ≡ true → R k l (e ∷ es)
    → GoesTheSame k l pid e.call × (IsReady Well l pid e.call e.chosen → R (after_one pid e k) (after_one pid e l) es))
    → (k l : Kernel) (es : List Executed) → Well l → is_alive l pid ≡ true → AllInside es → Fresh l es → R k l es → Goes Well k pid es
    → Goes Well l pid es × (loose_touches pid es l ≡ loose_touches pid es k) × (effects pid es l ≡ effects pid es k)
simulated Well laws pid R step k l [] well alive inside fresh r goes = (tt, refl, refl)
simulated Well laws pid R step k l (e ∷ es) well alive inside fresh r goes =
    let can : CanBeChosen l (edits k pid e.call) e.chosen = can_again k l (edits k pid e.call) e.chosen goes.0.0.numbers (λ n h. fresh.nowhere n (in_left n e.chosen (numbers es) h)) in
    let way = step k l e es goes.0.0 well inside.0 r in
    let ready : IsReady Well l pid e.call e.chosen = record { well = well; alive = alive; numbers = subst (λ x. CanBeChosen l x e.chosen) (sym way.0.edits) can } in
    let rest = simulated Well laws pid R step (after_one pid e k) (after_one pid e l) es (laws.well_after l pid e.call e.chosen ready) (laws.alive_after l pid e.call e.chosen ready pid (inr inside.0) alive) inside.1 (fresh_after Well laws l pid e es ready fresh) (way.1 ready) goes.1 in
    (((ready, goes.0.1 ∙ sym way.0.reply), rest.0), ap₂ (λ (s t : List Touch). s ++ t) way.0.touches rest.1, ap₂ (λ (x : List Edit) (ds : List Effect). record { chosen = e.chosen; edits = x } ∷ ds) way.0.edits rest.2)

-- from a state that is alike in all that the list touched
pub goes_again : (Well : Kernel → Type 0) (laws : CallLaws Well) (pid : ℕ) (k l : Kernel) (es : List Executed) → Well l → is_alive l pid ≡ true → AllInside es → Fresh l es
    → OwnAlike k l pid → Alike k l (loose_touches pid es k) → Goes Well k pid es → Goes Well l pid es × (loose_touches pid es l ≡ loose_touches pid es k) × (effects pid es l ≡ effects pid es k)
goes_again Well laws pid k l es well alive inside fresh own_same alike goes = simulated Well laws pid (λ k l es. OwnAlike k l pid × Alike k l (loose_touches pid es k)) step k l es well alive inside fresh (own_same, alike) goes where
  step : (k l : Kernel) (e : Executed) (es : List Executed) → IsReady Well k pid e.call e.chosen → Well l → is_inside e.call ≡ true → OwnAlike k l pid × Alike k l (loose_touches pid (e ∷ es) k)
      → GoesTheSame k l pid e.call × (IsReady Well l pid e.call e.chosen → OwnAlike (after_one pid e k) (after_one pid e l) pid × Alike (after_one pid e k) (after_one pid e l) (loose_touches pid es (after_one pid e k)))
  step k l e es ready well inside r =
      let here : Alike k l (touches k pid e.call) = λ t i. r.1 t (In-left t _ _ i) in
      let saw = reads_alike k l pid e.call here in
      let marked = writes_alike k l pid e.call here in (
        laws.local k l pid e.call (r.0 e.call inside) saw,
        λ ready_l. (
          λ c is. laws.own_alike k l pid e.call e.chosen ready ready_l inside (r.0 e.call inside) saw c is (r.0 c is),
          λ t i. laws.alike k l pid e.call e.chosen ready ready_l inside (r.0 e.call inside) saw marked t.aspect (r.1 t (In-right t (touches k pid e.call) _ i)),
        ),
      )

-- from a state that tidies to the same
pub goes_tidied : (Well : Kernel → Type 0) (laws : CallLaws Well) (pid : ℕ) (k l : Kernel) (es : List Executed) → Well l → is_alive l pid ≡ true → AllInside es → Fresh l es
    → tidy l ≡ tidy k → Goes Well k pid es → Goes Well l pid es × (loose_touches pid es l ≡ loose_touches pid es k) × (effects pid es l ≡ effects pid es k)
goes_tidied Well laws pid k l es well alive inside fresh same goes = simulated Well laws pid (λ k l es. tidy l ≡ tidy k) step k l es well alive inside fresh same goes where
  step : (k l : Kernel) (e : Executed) (es : List Executed) → IsReady Well k pid e.call e.chosen → Well l → is_inside e.call ≡ true → tidy l ≡ tidy k
      → GoesTheSame k l pid e.call × (IsReady Well l pid e.call e.chosen → tidy (after_one pid e l) ≡ tidy (after_one pid e k))
  step k l e es ready well inside same =
      let from_k = laws.tidy_unseen k pid e.call ready.well in
      let from_l = laws.tidy_unseen l pid e.call well in
      let edits_same : edits l pid e.call ≡ edits k pid e.call = sym from_l.edits ∙ ap (λ s. edits s pid e.call) same ∙ from_k.edits in (
        record {
          reply = sym from_l.reply ∙ ap (λ s. reply s pid e.call) same ∙ from_k.reply;
          touches = sym from_l.touches ∙ ap (λ s. touches s pid e.call) same ∙ from_k.touches;
          edits = edits_same;
        },
        λ ready_l. sym (laws.tidy_later l pid e.call e.chosen ready_l) ∙ ap (λ es. tidy (all_applied e.chosen es (tidy l))) edits_same ∙ ap (λ s. tidy (all_applied e.chosen (edits k pid e.call) s)) same ∙ laws.tidy_later k pid e.call e.chosen ready,
      )

-- the plain run, which tidies at each step
pub record Tidied (k : Kernel) (pid : ℕ) (es : List Executed) : Type 0 where
  pub run : Run (tidy k) (items pid es) (after_list pid es (tidy k))
  pub touches : list_touches pid es (tidy k) ≡ loose_touches pid es k
  pub end : after_list pid es (tidy k) ≡ tidy (loose pid es k)

pub tidied_run : (Well : Kernel → Type 0) (laws : CallLaws Well) (pid : ℕ) (k : Kernel) (es : List Executed) → Goes Well k pid es → Tidied k pid es
tidied_run Well laws pid k [] goes = record { run = refl; touches = refl; end = refl }
tidied_run Well laws pid k (e ∷ es) goes =
    let unseen = laws.tidy_unseen k pid e.call goes.0.0.well in
    let same : after_step pid e (tidy k) ≡ tidy (after_one pid e k) = ap (λ es. tidy (all_applied e.chosen es (tidy k))) unseen.edits ∙ laws.tidy_later k pid e.call e.chosen goes.0.0 in
    let rest = tidied_run Well laws pid (after_one pid e k) es goes.1 in
    let can : CanBeChosen (tidy k) (edits (tidy k) pid e.call) e.chosen = subst (λ x. CanBeChosen (tidy k) x e.chosen) (sym unseen.edits)
    (can_again k (tidy k) (edits k pid e.call) e.chosen goes.0.0.numbers (λ n h. laws.nowhere_tidy k n (all_to (IsNowhere k) e.chosen goes.0.0.numbers.unused n (is_in_in n e.chosen h)))) in
    record {
      run = (after_step pid e (tidy k), record { replied = goes.0.1 ∙ sym unseen.reply; numbers = can; changed = refl }, subst (λ s. Run s (items pid es) (after_list pid es s)) (sym same) rest.run);
      touches = ap₂ (λ (s t : List Touch). s ++ t) unseen.touches (ap (list_touches pid es) same ∙ rest.touches);
      end = ap (after_list pid es) same ∙ rest.end;
    }

pub goes_well : (Well : Kernel → Type 0) (laws : CallLaws Well) (pid : ℕ) (k : Kernel) (es : List Executed) → Well k → Goes Well k pid es → Well (loose pid es k)
goes_well Well laws pid k [] well goes = well
goes_well Well laws pid k (e ∷ es) well goes = goes_well Well laws pid (after_one pid e k) es (laws.well_after k pid e.call e.chosen goes.0.0) goes.1

pub goes_alive : (Well : Kernel → Type 0) (laws : CallLaws Well) (pid : ℕ) (k : Kernel) (es : List Executed) → AllInside es → is_alive k pid ≡ true → Goes Well k pid es → is_alive (loose pid es k) pid ≡ true
goes_alive Well laws pid k [] inside alive goes = alive
goes_alive Well laws pid k (e ∷ es) inside alive goes = goes_alive Well laws pid (after_one pid e k) es inside.1 (laws.alive_after k pid e.call e.chosen goes.0.0 pid (inr inside.0) alive) goes.1

-- another process stays alive, and its own part is left alone
pub others_alive : (Well : Kernel → Type 0) (laws : CallLaws Well) (pid : ℕ) (k : Kernel) (es : List Executed) (q : ℕ) → q ≢ pid → is_alive k q ≡ true → Goes Well k pid es → is_alive (loose pid es k) q ≡ true
others_alive Well laws pid k [] q ne alive goes = alive
others_alive Well laws pid k (e ∷ es) q ne alive goes = others_alive Well laws pid (after_one pid e k) es q ne (laws.alive_after k pid e.call e.chosen goes.0.0 q (inl ne) alive) goes.1

pub others_own : (Well : Kernel → Type 0) (laws : CallLaws Well) (pid : ℕ) (k : Kernel) (es : List Executed) (q : ℕ) → q ≢ pid → is_alive k q ≡ true → Goes Well k pid es → OwnAlike k (loose pid es k) q
others_own Well laws pid k [] q ne alive goes c is = refl
others_own Well laws pid k (e ∷ es) q ne alive goes c is =
    others_own Well laws pid (after_one pid e k) es q ne (laws.alive_after k pid e.call e.chosen goes.0.0 q (inl ne) alive) goes.1 c is
    ∙ laws.own_left k pid e.call e.chosen goes.0.0 q ne alive c is

pub goes_nowhere : (Well : Kernel → Type 0) (laws : CallLaws Well) (pid : ℕ) (k : Kernel) (es : List Executed) (n : ℕ) → is_in n (numbers es) ≡ false → IsNowhere k n → Goes Well k pid es → IsNowhere (loose pid es k) n
goes_nowhere Well laws pid k [] n out none goes = none
goes_nowhere Well laws pid k (e ∷ es) n out none goes =
    goes_nowhere Well laws pid (after_one pid e k) es n (out_right n e.chosen (numbers es) out) (laws.nowhere_after k pid e.call e.chosen goes.0.0 n (out_left n e.chosen (numbers es) out) none) goes.1

-- each aspect that a list touches was there before it, or is of an object that the list makes
pub goes_there : (Well : Kernel → Type 0) (laws : CallLaws Well) (pid : ℕ) (k : Kernel) (es : List Executed) → Goes Well k pid es → (t : Touch) → In t (loose_touches pid es k)
    → IsThere k t.aspect ⊎ (is_in (object_of t.aspect) (numbers es) ≡ true)
goes_there Well laws pid k [] goes t i = absurd i
goes_there Well laws pid k (e ∷ es) goes t i = elim (In-cases t (touches k pid e.call) _ i) [
  | inl here ↦ (let there = laws.touches_there k pid e.call goes.0.0.well goes.0.0.alive in inl (of_touches (IsThere k) k pid e.call there.0 there.1 t here))
  | inr later ↦ elim (goes_there Well laws pid (after_one pid e k) es goes.1 t later) [
    | inl there ↦ elim (laws.there_before k pid e.call e.chosen goes.0.0 t.aspect there) [
      | inl before ↦ inl before
      | inr made ↦ inr (in_left (object_of t.aspect) e.chosen (numbers es) made)
    ]
    | inr made ↦ inr (in_right (object_of t.aspect) e.chosen (numbers es) made)
  ]
]

-- what was there and is written by no call of the list is kept
pub goes_keeps : (Well : Kernel → Type 0) (laws : CallLaws Well) (pid : ℕ) (k : Kernel) (es : List Executed) → Goes Well k pid es → (a : Aspect) → IsThere k a
    → ((w : Aspect) → In (written w) (loose_touches pid es k) → LeavesAlone w a) → Keeps k (loose pid es k) a
goes_keeps Well laws pid k [] goes a there alone = keeps_self k a
goes_keeps Well laws pid k (e ∷ es) goes a there alone =
    let marked : AllByRecursion (λ w. LeavesAlone w a) (writes k pid e.call) = all_from (λ w. LeavesAlone w a) (writes k pid e.call) (λ w i. alone w (In-left (written w) (touches k pid e.call) _ (In-write k pid e.call w i))) in
    keeps_on k (after_one pid e k) (loose pid es (after_one pid e k)) a (laws.marks k pid e.call e.chosen goes.0.0 a there marked)
    (goes_keeps Well laws pid (after_one pid e k) es goes.1 a (laws.there_after k pid e.call e.chosen goes.0.0 a there) (λ w i. alone w (In-right (written w) (touches k pid e.call) _ i)))

-- no call writes all names of a directory
abbrev NotNames : Aspect → Type 0
NotNames a = (d : ℕ) → a ≢ Names d

all_map : {A : Type 0} (f : A → Aspect) → ((x : A) → NotNames (f x)) → (xs : List A) → AllByRecursion NotNames (map f xs)
all_map f ne [] = tt
all_map f ne (x ∷ xs) = (ne x, all_map f ne xs)

optional : (b : Bool) (n : ℕ) → AllByRecursion NotNames (if b then Size n ∷ [] else [])
optional true n = (λ d e. absurd cc, tt)
optional false n = tt

unless : (b : Bool) (n : ℕ) → AllByRecursion NotNames (if b then [] else Size n ∷ [])
unless true n = tt
unless false n = (λ d e. absurd cc, tt)

no_names_marked : (e : Edit) → AllByRecursion NotNames (marks e)
no_names_marked (Make_directory d x i) = (λ d e. absurd cc, tt)
no_names_marked (Make_file d x i) = (λ d e. absurd cc, tt)
no_names_marked (Make_fixed d x fixed i) = (λ d e. absurd cc, tt)
no_names_marked (Name_file d x n) = (λ d e. absurd cc, (λ d e. absurd cc, tt))
no_names_marked (Unname_file d x n) = (λ d e. absurd cc, (λ d e. absurd cc, tt))
no_names_marked (Unname_directory d x n) = (λ d e. absurd cc, tt)
no_names_marked (Move d x e y n replaced) = (λ d e. absurd cc, (λ d e. absurd cc, all_map Links (λ x d e. absurd cc) (file_replaced replaced)))
no_names_marked (Swap d x n e y m) = (λ d e. absurd cc, (λ d e. absurd cc, tt))
no_names_marked (Put_bytes n place bytes before) = append-all NotNames _ _ (optional (nat_lt before (place + length bytes)) n) (all_map (Block n) (λ x d e. absurd cc) (blocks place (length bytes)))
no_names_marked (Wipe n place count) = all_map (Block n) (λ x d e. absurd cc) (blocks place count)
no_names_marked (Cut n before after) = append-all NotNames _ _ (unless (before == after) n) (all_map (Block n) (λ x d e. absurd cc) (blocks after (before - after)))
no_names_marked (Take p count) = (λ d e. absurd cc, tt)
no_names_marked (Append p bytes) = (λ d e. absurd cc, tt)
no_names_marked (Set_offset d place) = (λ d e. absurd cc, tt)
no_names_marked (Set_rights n rights) = (λ d e. absurd cc, tt)
no_names_marked (Share_slot pid f d pipes) = all_map Ends (λ x d e. absurd cc) pipes
no_names_marked (Clear_slot pid f pipes) = all_map Ends (λ x d e. absurd cc) pipes
no_names_marked (New_process child parent pipes) = all_map Ends (λ x d e. absurd cc) pipes
no_names_marked (End_process pid pipes) = all_map Ends (λ x d e. absurd cc) pipes
no_names_marked e = tt

no_names_written : (es : List Edit) → AllByRecursion NotNames (flat_map marks es)
no_names_written [] = tt
no_names_written (e ∷ es) = append-all NotNames (marks e) (flat_map marks es) (no_names_marked e) (no_names_written es)

in_reads : (seen : List Aspect) (t : Touch) → In t (map read seen) → t.write ≡ false
in_reads [] t i = absurd i
in_reads (a ∷ rest) t i = elim i [ inl e ↦ ap (λ (u : Touch). u.write) e | inr r ↦ in_reads rest t r ]

in_writes : (marked : List Aspect) → AllByRecursion NotNames marked → (t : Touch) → In t (map written marked) → NotNames t.aspect
in_writes [] h t i = absurd i
in_writes (a ∷ rest) h t i = elim i [ inl s ↦ λ d e. h.0 d (sym (ap (λ (u : Touch). u.aspect) s) ∙ e) | inr r ↦ in_writes rest h.1 t r ]

plain_touches : (k : Kernel) (pid : ℕ) (call : Call) (t : Touch) → In t (touches k pid call) → IsPlain t
plain_touches k pid call t i d e = elim (In-cases t (map read (reads k pid call)) _ i) [
  | inl r ↦ in_reads (reads k pid call) t r
  | inr w ↦ absurd (in_writes (writes k pid call) (no_names_written (edits k pid call)) t w d e)
]

pub goes_plain : (pid : ℕ) (k : Kernel) (es : List Executed) (t : Touch) → In t (loose_touches pid es k) → IsPlain t
goes_plain pid k [] t i = absurd i
goes_plain pid k (e ∷ es) t i = elim (In-cases t (touches k pid e.call) _ i) [
  | inl here ↦ plain_touches k pid e.call t here
  | inr later ↦ goes_plain pid (after_one pid e k) es t later
]

-- the writes of the first clash with no touch of the second
abbrev pub WritesApart : List Touch → List Touch → Type 0
WritesApart ts us = (w : Aspect) (u : Touch) → In (written w) ts → In u us → clash (written w) u ≡ false

-- what another process's list touched is alike after a list whose writes do not clash with it
pub left_alike : (Well : Kernel → Type 0) (laws : CallLaws Well) (k : Kernel) (p : ℕ) (es : List Executed) (q : ℕ) (fs : List Executed) → Well k → Goes Well k p es → Goes Well k q fs → Fresh k fs
    → WritesApart (loose_touches p es k) (loose_touches q fs k) → ((n : ℕ) → is_in n (numbers fs) ≡ true → is_in n (numbers es) ≡ false) → Alike k (loose p es k) (loose_touches q fs k)
left_alike Well laws k p es q fs well goes theirs fresh apart numbers_apart t i = elim (goes_there Well laws q k fs theirs t i) [
  | inl there ↦ goes_keeps Well laws p k es goes t.aspect there (λ w j. leaves_alone w t (goes_plain q k fs t i) (apart w t j i))
  | inr made ↦ laws.nowhere_alike k (loose p es k) t.aspect well (goes_well Well laws p k es well goes) (fresh.nowhere (object_of t.aspect) made)
      (goes_nowhere Well laws p k es (object_of t.aspect) (numbers_apart (object_of t.aspect) made) (fresh.nowhere (object_of t.aspect) made) goes)
]
