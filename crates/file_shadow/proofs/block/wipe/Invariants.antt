use Rattle.file_shadow.specs.Steps.{Wiped}
use Rattle.file_shadow.proofs.block.wipe.Given as goal

abbrev pub invariant-loop-i : goal.invariant-loop-i
invariant-loop-i l = Wiped l.from l.i l.fn.out l.out
