-- The laws of renaming: the model does not look at an object's number, but to tell it.
use Rattle.std.specs.Prelude.{◌≡◌, ◌≢◌, ◌⊎◌, ℕ, ◌+◌, ◌<◌, List, [], ◌∷◌, map, length, Some, None}
use Rattle.std.specs.Prelude.{Result, Ok, ⊤}
use Rattle.std.specs.List.{AllByRecursion}
use Rattle.model.specs.FiniteMap.{get}
use Rattle.model.specs.State.{Kernel, Rights, A_directory}
use Rattle.model.specs.Plan.{Errno, Question, answer}
use Rattle.model.specs.Changes.{Which, There, Made, Edit, Make_directory, Make_file, Make_fixed}
use Rattle.model.specs.Changes.{Open_inode, Make_pipe, applied, all_applied, tidy, process_of}
use Rattle.model.specs.Calls.{Call, Stat, Lstat, Answer, Stated, own}
use Rattle.model.specs.Steps.{reply, edits, IsNowhere, CanBeChosen, Step, Item, Run}
use Rattle.model.specs.Moments.{Setup, start}
use Rattle.renaming_laws.specs.Renaming.{IsRenaming, swap, renamed}
use Rattle.renaming_laws.specs.Renamed.{renamed_question, renamed_shown, renamed_own, renamed_edit}
use Rattle.renaming_laws.specs.Renamed.{renamed_answer, mapped_ok, renamed_item}

-- Each descriptor gives a description that is there. Of one that does not the model says that its
-- inode is 0, whatever the numbers are.
pub record SlotsAreThere (k : Kernel) : Type 0 where
  pub there : (pid fd d : ℕ) → get (process_of k pid).table fd ≡ Some d
      → get k.descriptions d ≢ None

-- whether the new numbers that an edit speaks of are among so many
abbrev pub IsAmong : ℕ → Which → Type 0
IsAmong count (There n) = ⊤
IsAmong count (Made i) = i < count

abbrev pub HasNumbers : ℕ → Edit → Type 0
HasNumbers count (Make_directory d x i) = i < count
HasNumbers count (Make_file d x i) = i < count
HasNumbers count (Make_fixed d x fixed i) = i < count
HasNumbers count (Open_inode i inode mode pid fd) = (i < count) × IsAmong count inode
HasNumbers count (Make_pipe i pid reader writer) = i + 2 < count
HasNumbers count _ = ⊤

-- the state answers each question in other numbers
abbrev pub QuestionsAreRenamed : Type 0
QuestionsAreRenamed =
    (f : ℕ → ℕ) → IsRenaming f → (k : Kernel) (q : Question)
    → answer (renamed f k) (renamed_question f q) ≡ renamed_shown f q (answer k q)

-- and so does each edit change it
pub record EditsAreRenamed (f : ℕ → ℕ) : Type 0 where
  pub one : (k : Kernel) (chosen : List ℕ) (e : Edit) → HasNumbers (length chosen) e
      → applied (map f chosen) (renamed_edit f e) (renamed f k) ≡ renamed f (applied chosen e k)
  pub all : (k : Kernel) (chosen : List ℕ) (es : List Edit)
      → AllByRecursion (HasNumbers (length chosen)) es
      → all_applied (map f chosen) (map (renamed_edit f) es) (renamed f k)
      ≡ renamed f (all_applied chosen es k)
  pub tidy : (k : Kernel) → tidy (renamed f k) ≡ renamed f (tidy k)

-- a call is answered, and changes the state, in other numbers
pub record CallIsRenamed (f : ℕ → ℕ) (k : Kernel) (pid : ℕ) (call : Call) : Type 0 where
  pub own : own (renamed f k) pid call ≡ renamed_own f (own k pid call)
  pub reply : reply (renamed f k) pid call ≡ mapped_ok (renamed_answer f) (reply k pid call)
  pub edits : edits (renamed f k) pid call ≡ map (renamed_edit f) (edits k pid call)

abbrev pub CallsAreRenamed : Type 0
CallsAreRenamed =
    (f : ℕ → ℕ) → IsRenaming f → (k : Kernel) → SlotsAreThere k → (pid : ℕ) (call : Call)
    → CallIsRenamed f k pid call

-- a state with a descriptor that gives nothing, and a call that tells the renamed one from it
pub record SlotsAreNeeded : Type 0 where
  pub state : Kernel
  pub pid : ℕ
  pub call : Call
  pub differ : reply (renamed (swap 0 1) state) pid call
      ≢ mapped_ok (renamed_answer (swap 0 1)) (reply state pid call)

-- a run, in other numbers
pub record RunsAreRenamed (f : ℕ → ℕ) : Type 0 where
  pub nowhere : (k : Kernel) (n : ℕ) → IsNowhere k n → IsNowhere (renamed f k) (f n)
  pub chosen : (k : Kernel) (es : List Edit) (chosen : List ℕ) → CanBeChosen k es chosen
      → CanBeChosen (renamed f k) (map (renamed_edit f) es) (map f chosen)
  pub step : (k : Kernel) → SlotsAreThere k → (it : Item) (after : Kernel)
      → Step k it.pid it.call it.answer it.chosen after
      → Step (renamed f k) it.pid it.call (renamed_item f it).answer (renamed_item f it).chosen
      (renamed f after) × SlotsAreThere after
  pub run : (k : Kernel) → SlotsAreThere k → (items : List Item) (after : Kernel)
      → Run k items after → Run (renamed f k) (map (renamed_item f) items) (renamed f after)

-- an answer that does not tell a number
abbrev pub TellsNot : ℕ → Result Answer Errno → Type 0
TellsNot n (Ok (Stated s)) = s.num ≢ n
TellsNot n _ = ⊤

-- a call that does not choose it
abbrev pub ChoosesNot : ℕ → Item → Type 0
ChoosesNot n it = AllByRecursion (λ m. m ≢ n) it.chosen

-- With another root the renamed items run.
abbrev pub RootIsRenamed : Type 0
RootIsRenamed =
    (a b : ℕ) (setup : Setup) (items : List Item) (after : Kernel)
    → Run (start a setup) items after
    → Run (start b setup) (map (renamed_item (swap a b)) items) (renamed (swap a b) after)

-- A run never chooses its root's number.
abbrev pub RootIsNeverChosen : Type 0
RootIsNeverChosen =
    (root : ℕ) (setup : Setup) (items : List Item) (after : Kernel)
    → Run (start root setup) items after → AllByRecursion (ChoosesNot root) items

-- It tells no number but its root's and those that it chose.
abbrev pub OnlyChosenAreTold : Type 0
OnlyChosenAreTold =
    (root n : ℕ) (setup : Setup) (items : List Item) (after : Kernel) → n ≢ root
    → AllByRecursion (ChoosesNot n) items → Run (start root setup) items after
    → AllByRecursion (λ it. TellsNot n it.answer) items

-- the two calls for the status of the path `/`
abbrev pub IsStatOfRoot : Call → Type 0
IsStatOfRoot call = (call ≡ Stat (47 ∷ [])) ⊎ (call ≡ Lstat (47 ∷ []))

-- Only the status of the path `/` tells the root.
pub record TellsRoot (root : ℕ) (call : Call) (answer : Result Answer Errno) : Type 0 where
  pub is_stat : IsStatOfRoot call
  pub rights : Rights
  pub tells : answer
      ≡ Ok (Stated (record {
        kind = A_directory;
        num = root;
        size = 0;
        links = 1;
        rights = rights;
      }))

abbrev pub StatTellsTheRoot : Type 0
StatTellsTheRoot =
    (root : ℕ) (setup : Setup) (items : List Item) (after : Kernel)
    → Run (start root setup) items after
    → AllByRecursion (λ it. TellsNot root it.answer ⊎ TellsRoot root it.call it.answer) items

-- The root's number is free: where no answer tells the root a, and b is not chosen, the items run
-- from the root b as from the root a.
abbrev pub RootIsFree : Type 0
RootIsFree =
    (a b : ℕ) (setup : Setup) (items : List Item) (after : Kernel)
    → AllByRecursion (λ it. TellsNot a it.answer) items → AllByRecursion (ChoosesNot b) items
    → Run (start a setup) items after
    → Run (start b setup) items (renamed (swap a b) after)
