use Rattle.std.proofs.Common.{take}
use Rattle.std.specs.List.{All}
use Rattle.machine.specs.Shown.{Kept}
use Rattle.store_form.specs.Stores.{told_of, IsOfChange}
use Rattle.recovery.specs.Coming.{Tells}
use Rattle.recovery.proofs.again.entries_again.Given as goal

-- the calls of the entries so far were made again
abbrev pub invariant-loop-entry : goal.invariant-loop-entry
invariant-loop-entry g l = record {
  kept : Kept (g.M.Machine.shown l.machine);
  tells : Tells (g.M.Machine.shown l.fn.machine).log (g.M.Machine.shown l.machine).log (told_of (take l.entry-index l.entries));
  are : All IsOfChange (take l.entry-index l.entries);
}
