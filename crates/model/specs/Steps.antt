-- What a call touches, and the steps and runs of a plain kernel.
use Rattle.std.specs.Prelude.{◌≡◌, ℕ, List, [], ◌∷◌, ◌++◌, true, false, map, Some, None, Result, Ok}
use Rattle.std.specs.Prelude.{Err, ◌≢◌, ⊤, length}
use Rattle.std.specs.List.{flat_map, sum_by, AllByRecursion}
use Rattle.model.specs.FiniteMap.{get}
use Rattle.model.specs.State.{Name, Kernel, names_of}
use Rattle.model.specs.Aspects.{Aspect}
pub use Rattle.ids.specs.declared.aspect.Touch.{Touch}
use Rattle.model.specs.Plan.{Errno, given, seen}
use Rattle.model.specs.Changes.{Edit, marks, news, all_applied, tidy, process_of}
use Rattle.model.specs.Calls.{Call, Answer, own}
use Rattle.model.specs.Plans.{Change, plan}

-- the reply and the edits, or a refusal
abbrev pub outcome : Kernel → ℕ → Call → Result Change Errno
outcome k pid call = given k (plan (own k pid call) call)

abbrev pub reads : Kernel → ℕ → Call → List Aspect
reads k pid call = seen k (plan (own k pid call) call)

abbrev pub edits_of : Result Change Errno → List Edit
edits_of (Ok change) = change.edits
edits_of (Err e) = []

abbrev pub reply_of : Result Change Errno → Result Answer Errno
reply_of (Ok change) = Ok change.reply
reply_of (Err e) = Err e

abbrev pub edits : Kernel → ℕ → Call → List Edit
edits k pid call = edits_of (outcome k pid call)

abbrev pub reply : Kernel → ℕ → Call → Result Answer Errno
reply k pid call = reply_of (outcome k pid call)

abbrev pub writes : Kernel → ℕ → Call → List Aspect
writes k pid call = flat_map marks (edits k pid call)

-- what a call touches, in order: what it saw, and then what it writes
abbrev pub touches : Kernel → ℕ → Call → List Touch
touches k pid call =
    map (λ a. record { aspect = a; write = false }) (reads k pid call)
    ++ map (λ a. record { aspect = a; write = true }) (writes k pid call)

-- a number that is nowhere in the state
pub record IsNowhere (k : Kernel) (n : ℕ) : Type 0 where
  pub inode : get k.inodes n ≡ None
  pub rights : get k.rights n ≡ None
  pub description : get k.descriptions n ≡ None
  pub unnamed : (d : ℕ) (x : Name) → get (names_of k d) x ≢ Some n
  pub unheld : (pid f : ℕ) → get (process_of k pid).table f ≢ Some n

abbrev pub AllDifferent : List ℕ → Type 0
AllDifferent [] = ⊤
AllDifferent (n ∷ ns) = AllByRecursion (λ m. n ≢ m) ns × AllDifferent ns

-- numbers for the new objects: as many as are made, unused, and all different
pub record CanBeChosen (k : Kernel) (made : List Edit) (chosen : List ℕ) : Type 0 where
  pub count : length chosen ≡ sum_by news made
  pub unused : AllByRecursion (IsNowhere k) chosen
  pub different : AllDifferent chosen

pub record Step (k : Kernel) (pid : ℕ) (call : Call) (answer : Result Answer Errno)
    (chosen : List ℕ) (after : Kernel) : Type 0 where
  pub replied : answer ≡ reply k pid call
  pub numbers : CanBeChosen k (edits k pid call) chosen
  pub changed : after ≡ tidy (all_applied chosen (edits k pid call) k)

-- one call of a list: who, what, the answer and the new numbers
pub record Item : Type 0 where
  pub pid : ℕ
  pub call : Call
  pub answer : Result Answer Errno
  pub chosen : List ℕ

abbrev pub Run : Kernel → List Item → Kernel → Type 0
Run k [] after = after ≡ k
Run k (it ∷ items) after =
    (mid : Kernel) × Step k it.pid it.call it.answer it.chosen mid × Run mid items after
