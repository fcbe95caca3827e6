-- What a recorder keeps of a history, and what it tells.
use Rattle.std.specs.Prelude.{◌≡◌, ℕ, List, [], ◌∷◌, false, Option, Some, None, ⊤, nat_eq}
use Rattle.std.specs.HashMap.{get, spare}
use Rattle.model.specs.Steps.{Item}
use Rattle.model.specs.Entries.{Op, Do, Begin, End, Abort, Entry}
use Rattle.model.specs.Moments.{Moment}
use Rattle.redo_records.specs.Changing.{only_looks}
use Rattle.redo_records.specs.Kept.{AreOf, HasPlace, HasSlot, IsKept}
use Rattle.redo_records.specs.declared.recorder.Record.{Record}
use Rattle.redo_records.specs.declared.recorder.Record.TheVariants.{Call, Transaction}
use Rattle.redo_records.specs.declared.recorder.Recorder.{Recorder}

-- A recorder has followed a history up to a moment: of each process in a live transaction it keeps
-- the calls so far that can have changed something, of each doomed one that it is, and of the others
-- nothing.
abbrev pub Follows : Moment → Recorder → Type 0
Follows m r = (pid : ℕ) → IsKept pid (m.phase pid) (get nat_eq r.transactions pid)

-- It has the memory for what an operation of a process may add. Ends and aborts add nothing, nor does
-- a begin of a process of which something is kept.
abbrev pub HasRoom : Recorder → ℕ → Op → Type 0
HasRoom r pid (Begin flags) = HasSlot (spare r.transactions) (get nat_eq r.transactions pid)
HasRoom r pid (Do call) = only_looks call ≡ false → HasPlace (get nat_eq r.transactions pid)
HasRoom r pid End = ⊤
HasRoom r pid (Abort no_restart) = ⊤

-- the entries of a record
abbrev pub entries_of : Record → List Entry
entries_of (Call e) = e ∷ []
entries_of (Transaction entries) = entries.items

abbrev pub told : Option Record → List (List Entry)
told (Some r) = entries_of r ∷ []
told None = []

-- entries of these records, each entry of one item
abbrev pub Tell : List (List Item) → List (List Entry) → Type 0
Tell [] [] = ⊤
Tell (r ∷ rs) (es ∷ ess) = AreOf r es × Tell rs ess
Tell _ _ = ⊥
