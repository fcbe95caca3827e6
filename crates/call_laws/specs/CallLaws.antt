-- What the law of histories asks of calls. `Well` is the model's own well-formedness of states.
use Rattle.std.specs.Prelude.{◌≡◌, ◌≢◌, ℕ, ◌≤◌, true, false, List, ◌⊎◌}
use Rattle.std.specs.List.{AllByRecursion}
use Rattle.model.specs.State.{Kernel}
use Rattle.model.specs.Aspects.{Aspect, Entry, Names, Size, Block, Links, Ends, Offset, Front, Back}
use Rattle.model.specs.Aspects.{Target, Rights, Keeps, KeepsAll}
use Rattle.model.specs.Changes.{all_applied, tidy}
use Rattle.model.specs.Calls.{Call, own}
use Rattle.model.specs.Steps.{reads, writes, edits, IsNowhere, CanBeChosen}
use Rattle.call_laws.specs.Objects.{IsThere, LeavesAlone}
use Rattle.model.specs.Laws.{GoesTheSame, DependsOnWhatItSaw}
use Rattle.model.specs.Entries.{is_inside}
use Rattle.model.specs.Moments.{Setup, is_alive, is_in, start}

-- the object that an aspect is of
abbrev pub object_of : Aspect → ℕ
object_of (Entry d x) = d
object_of (Names d) = d
object_of (Size n) = n
object_of (Block n i) = n
object_of (Links n) = n
object_of (Ends p) = p
object_of (Offset d) = d
object_of (Front p) = p
object_of (Back p) = p
object_of (Target n) = n
object_of (Rights n) = n

-- the state after a call, not tidied
abbrev pub changed : Kernel → ℕ → Call → List ℕ → Kernel
changed k pid call chosen = all_applied chosen (edits k pid call) k

-- a living process can make this call with these new numbers
pub record IsReady (Well : Kernel → Type 0) (k : Kernel) (pid : ℕ) (call : Call)
    (chosen : List ℕ) : Type 0 where
  pub well : Well k
  pub alive : is_alive k pid ≡ true
  pub numbers : CanBeChosen k (edits k pid call) chosen

pub record CallLaws (Well : Kernel → Type 0) : Type 0 where
  -- locality: where another state keeps what a call saw, and its
  -- own part is the same, it goes the same way
  pub local : DependsOnWhatItSaw
  -- coverage: of what was there a call changes only what it marks
  pub marks : (k : Kernel) (pid : ℕ) (call : Call) (chosen : List ℕ)
      → IsReady Well k pid call chosen
      → (a : Aspect) → IsThere k a → AllByRecursion (λ w. LeavesAlone w a) (writes k pid call)
      → Keeps k (changed k pid call chosen) a
  -- what is alike in two states stays so through the same call, where all that it touches is alike
  pub alike : (k l : Kernel) (pid : ℕ) (call : Call) (chosen : List ℕ)
      → IsReady Well k pid call chosen → IsReady Well l pid call chosen → is_inside call ≡ true
      → own l pid call ≡ own k pid call → KeepsAll k l (reads k pid call)
      → KeepsAll k l (writes k pid call)
      → (a : Aspect) → Keeps k l a → Keeps (changed k pid call chosen) (changed l pid call chosen) a
  -- and so does the process's own part
  pub own_alike : (k l : Kernel) (pid : ℕ) (call : Call) (chosen : List ℕ)
      → IsReady Well k pid call chosen → IsReady Well l pid call chosen → is_inside call ≡ true
      → own l pid call ≡ own k pid call → KeepsAll k l (reads k pid call)
      → (c : Call) → is_inside c ≡ true → own l pid c ≡ own k pid c
      → own (changed l pid call chosen) pid c ≡ own (changed k pid call chosen) pid c
  -- another living process's own part is left alone
  pub own_left : (k : Kernel) (pid : ℕ) (call : Call) (chosen : List ℕ)
      → IsReady Well k pid call chosen
      → (q : ℕ) → q ≢ pid → is_alive k q ≡ true → (c : Call) → is_inside c ≡ true
      → own (changed k pid call chosen) q c ≡ own k q c
  -- what a call touches is there
  pub touches_there : (k : Kernel) (pid : ℕ) (call : Call) → Well k → is_alive k pid ≡ true
      → AllByRecursion (IsThere k) (reads k pid call)
      × AllByRecursion (IsThere k) (writes k pid call)
  -- what is there after a call was there, or the call made it
  pub there_before : (k : Kernel) (pid : ℕ) (call : Call) (chosen : List ℕ)
      → IsReady Well k pid call chosen
      → (a : Aspect) → IsThere (changed k pid call chosen) a
      → IsThere k a ⊎ (is_in (object_of a) chosen ≡ true)
  -- before tidying nothing goes away
  pub there_after : (k : Kernel) (pid : ℕ) (call : Call) (chosen : List ℕ)
      → IsReady Well k pid call chosen
      → (a : Aspect) → IsThere k a → IsThere (changed k pid call chosen) a
  -- a number that is nowhere stays so, unless it is chosen
  pub nowhere_after : (k : Kernel) (pid : ℕ) (call : Call) (chosen : List ℕ)
      → IsReady Well k pid call chosen
      → (n : ℕ) → is_in n chosen ≡ false → IsNowhere k n → IsNowhere (changed k pid call chosen) n
  -- aspects of a number that is nowhere are all alike
  pub nowhere_alike : (k l : Kernel) (a : Aspect) → Well k → Well l → IsNowhere k (object_of a)
      → IsNowhere l (object_of a) → Keeps k l a
  -- states stay well formed
  pub well_after : (k : Kernel) (pid : ℕ) (call : Call) (chosen : List ℕ)
      → IsReady Well k pid call chosen → Well (changed k pid call chosen)
  -- living processes stay, but for one that exits
  pub alive_after : (k : Kernel) (pid : ℕ) (call : Call) (chosen : List ℕ)
      → IsReady Well k pid call chosen
      → (q : ℕ) → (q ≢ pid) ⊎ (is_inside call ≡ true) → is_alive k q ≡ true
      → is_alive (changed k pid call chosen) q ≡ true
  pub alive_counted : (k : Kernel) → Well k → (q : ℕ) → is_alive k q ≡ true → q ≤ k.made
  -- tidying: it keeps states well formed, is not seen, may be left to the end, and twice is once
  pub well_tidy : (k : Kernel) → Well k → Well (tidy k)
  pub tidy_unseen : (k : Kernel) (pid : ℕ) (call : Call) → Well k → GoesTheSame k (tidy k) pid call
  pub tidy_later : (k : Kernel) (pid : ℕ) (call : Call) (chosen : List ℕ)
      → IsReady Well k pid call chosen
      → tidy (all_applied chosen (edits k pid call) (tidy k)) ≡ tidy (changed k pid call chosen)
  pub tidy_twice : (k : Kernel) → Well k → tidy (tidy k) ≡ tidy k
  pub nowhere_tidy : (k : Kernel) (n : ℕ) → IsNowhere k n → IsNowhere (tidy k) n
  -- the state before any entry
  pub well_start : (root : ℕ) (setup : Setup) → Well (start root setup)
  pub tidy_start : (root : ℕ) (setup : Setup) → tidy (start root setup) ≡ start root setup
