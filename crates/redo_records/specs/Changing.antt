-- Which calls of a serial list are in a redo log: those that can have changed the state (Mohan, Haderle,
-- Lindsay, Pirahesh and Schwarz, ARIES, 1992: redo records).
use Rattle.std.specs.Prelude.{◌≡◌, ℕ, List, [], Bool, true, false, not, Result, Ok, Err, filter}
use Rattle.model.specs.State.{Kernel}
use Rattle.model.specs.Plan.{Errno}
use Rattle.model.specs.Changes.{tidy}
use Rattle.model.specs.Calls.{Call, Pread, Stat, Fstat, List_directory, Readlink, Lstat, Answer}
use Rattle.model.specs.Steps.{edits, Item, Step}

-- The calls that only look: each state stays as it is, whatever they answer. A call that is not
-- named here is taken for one that changes something.
abbrev pub only_looks : Call → Bool
only_looks (Pread f count offset) = true
only_looks (Stat path) = true
only_looks (Fstat f) = true
only_looks (List_directory path) = true
only_looks (Readlink path) = true
only_looks (Lstat path) = true
only_looks _ = false

-- whether a call that was answered so can have changed the state: none that was refused has
abbrev pub changes : Call → Result Answer Errno → Bool
changes call (Ok answer) = not (only_looks call)
changes call (Err e) = false

-- the items that can have
abbrev pub changing : List Item → List Item
changing items = filter (λ it. changes it.call it.answer) items

-- What is left out changes nothing: in whatever state such a call is answered so, it has no edits.
abbrev pub LeftOutChangesNothing : Type 0
LeftOutChangesNothing =
    (k after : Kernel) (pid : ℕ) (call : Call) (answer : Result Answer Errno) (chosen : List ℕ)
    → Step k pid call answer chosen after → changes call answer ≡ false
    → (edits k pid call ≡ []) × (after ≡ tidy k)
