use Rattle.notes.proofs.SlotLemmas.{NoneBefore}
use Rattle.notes.proofs.slots.find.Given as goal

abbrev pub invariant-loop-of : goal.invariant-loop-of
invariant-loop-of l = NoneBefore l.each l.pid l.of-index
