-- So far all that is open with the changes on top stands in the list.
use Rattle.std.proofs.Common.{◌≡◌, ℕ, ◌-◌, ◌++◌, nat_cmp}
use Rattle.model.specs.FiniteMap.{FinMap, entries}
use Rattle.fdtable.specs.Patches.{IsLaid}
use Rattle.fdtable.proofs.Opened.{open_from}
use Rattle.fdtable.proofs.patch.SlotPatch.entries_over.Given as goal

abbrev pub invariant-loop-number : goal.invariant-loop-number
invariant-loop-number l =
    (laid : FinMap nat_cmp ℕ) → IsLaid l.self l.table laid → l.entries.items ++ open_from laid l.number (l.number-end - l.number) ≡ entries laid
