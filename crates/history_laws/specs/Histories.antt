-- What holds of all legal histories.
use Rattle.std.specs.Prelude.{◌≡◌, ℕ, ◌+◌, ◌≤◌, List, [], ◌∷◌, ◌++◌, ◌⊎◌, length, true, ◌==◌}
use Rattle.std.specs.Prelude.{if◌then◌else◌}
use Rattle.std.specs.List.{AllByRecursion}
use Rattle.model.specs.Changes.{tidy}
use Rattle.model.specs.Calls.{Call}
use Rattle.model.specs.Steps.{Touch, Run}
use Rattle.model.specs.Laws.{GoesTheSame}
use Rattle.model.specs.Entries.{Entry}
use Rattle.model.specs.Forgetting.{Limit, limit_at}
use Rattle.model.specs.Moments.{Setup, Moment, status, is_in, start, next, after, reserved, calls_at}
use Rattle.model.specs.Moments.{seen_by, held_by, numbers, loose, loose_touches}
use Rattle.model.specs.Legal.{Right, Legal, serial, mine, IsBefore}
use Rattle.model.specs.Replies.{spoken_at, needed}
use Rattle.call_laws.specs.Objects.{IsThere}
use Rattle.call_laws.specs.CallLaws.{object_of}
use Rattle.history_laws.specs.Each.{AfterEach}

-- After a legal history each right entry gives a legal history: the live lists run from the new
-- committed state, with the replies and numbers that they had.
abbrev pub RightEntriesKeepHistoriesLegal : Type 0
RightEntriesKeepHistoriesLegal =
    (root : ℕ) (setup : Setup) (limit : Limit) (es : List Entry) (e : Entry)
    → Legal root setup limit es → Right limit (after root setup es) e
    → Legal root setup limit (es ++ e ∷ [])

-- The committed state is the plain run of the serial list.
abbrev pub CommittedIsSerial : Type 0
CommittedIsSerial = (root : ℕ) (setup : Setup) (limit : Limit) (es : List Entry)
    → Legal root setup limit es
    → Run (start root setup) (serial root setup es) (after root setup es).committed

-- Entries and reserved places stay within the limit.
abbrev pub PlacesSuffice : Type 0
PlacesSuffice = (root : ℕ) (setup : Setup) (limit : Limit) (es : List Entry)
    → Legal root setup limit es → length es + reserved (after root setup es) ≤ limit_at limit (length es)

-- A right entry's reply and doomed processes are those that are computed from what stood before.
abbrev pub RepliesAreAFunction : Type 0
RepliesAreAFunction = (limit : Limit) (m : Moment) (e : Entry) → Right limit m e
    → (e.reply ≡ (spoken_at limit m e.pid (status m e.pid) e.op).reply)
    × (e.doomed ≡ (spoken_at limit m e.pid (status m e.pid) e.op).doomed)

-- An entry is right only where it finds the places that it needs.
abbrev pub RightEntriesHavePlaces : Type 0
RightEntriesHavePlaces = (limit : Limit) (m : Moment) (e : Entry) → Right limit m e
    → m.entries + reserved m ≤ limit_at limit m.entries → m.entries + reserved m + needed (status m e.pid) e.op ≤ limit_at limit m.entries

-- Each beginning of a legal history is legal.
abbrev pub BeginningsAreLegal : Type 0
BeginningsAreLegal = (root : ℕ) (setup : Setup) (limit : Limit) (es fs : List Entry)
    → IsBefore es fs → Legal root setup limit fs → Legal root setup limit es

-- One entry more is its process's and no other's.
abbrev pub OwnEntriesGrow : Type 0
OwnEntriesGrow = (pid : ℕ) (es : List Entry) (e : Entry)
    → mine pid (es ++ e ∷ []) ≡ mine pid es ++ (if e.pid == pid then e ∷ [] else [])

-- A history with one entry more comes to the next moment.
abbrev pub AfterOneMore : Type 0
AfterOneMore = (root : ℕ) (setup : Setup) (es : List Entry) (e : Entry)
    → after root setup (es ++ e ∷ []) ≡ next (after root setup es) e

-- What a process sees may be held untidied: tidied it is the state after the list, the list's
-- touches are the same, and a further call goes the same way.
pub record MayBeLoose (m : Moment) (q : ℕ) : Type 0 where
  pub seen : seen_by m q ≡ tidy (loose q (calls_at m q) m.committed)
  pub held : held_by m q ≡ loose_touches q (calls_at m q) m.committed
  pub goes_on : (call : Call)
      → GoesTheSame (loose q (calls_at m q) m.committed) (seen_by m q) q call

abbrev pub ViewsMayBeLoose : Type 0
ViewsMayBeLoose = AfterEach (λ limit m. (q : ℕ) → MayBeLoose m q)

-- an object of the committed state, or one that the process's list makes
abbrev pub IsItsOwnOrThere : Moment → ℕ → Touch → Type 0
IsItsOwnOrThere m q t =
    IsThere m.committed t.aspect ⊎ (is_in (object_of t.aspect) (numbers (calls_at m q)) ≡ true)

-- An object that a live list touched is there in the committed state, or the list makes it.
abbrev pub TouchedObjectsStay : Type 0
TouchedObjectsStay =
    AfterEach (λ limit m. (q : ℕ) → AllByRecursion (IsItsOwnOrThere m q) (held_by m q))
