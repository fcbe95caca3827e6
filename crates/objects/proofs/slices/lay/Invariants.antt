use Rattle.objects.specs.Contents.{Overlaid}
use Rattle.objects.proofs.slices.lay.Given as goal

abbrev pub invariant-loop-i : goal.invariant-loop-i
invariant-loop-i l = Overlaid l.i l.offset l.cells l.fn.out l.out
