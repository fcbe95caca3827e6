-- So far all that are open on the description with the changes on top are counted.
use Rattle.std.proofs.Common.{◌≡◌, ℕ, ◌+◌, ◌-◌, ◌≤◌, nat_cmp}
use Rattle.model.specs.FiniteMap.{FinMap, entries}
use Rattle.fdtable.specs.Patches.{IsLaid}
use Rattle.fdtable.proofs.Opened.{among, open_from}
use Rattle.fdtable.proofs.patch.SlotPatch.count_over.Given as goal

abbrev pub invariant-loop-number : goal.invariant-loop-number
invariant-loop-number l =
    (l.count ≤ l.number)
    × ((laid : FinMap nat_cmp ℕ) → IsLaid l.self l.table laid → l.count + among l.description (open_from laid l.number (l.number-end - l.number)) ≡ among l.description (entries laid))
