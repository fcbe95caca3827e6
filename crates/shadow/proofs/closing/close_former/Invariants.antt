-- What the slots that are left gave is still to be closed.
use Rattle.std.proofs.Common.{drop}
use Rattle.freeing_laws.specs.Sweep.{all_closed}
use Rattle.shadow.specs.Laid.{given_in}
use Rattle.shadow.proofs.freeing.RemovalSteps.{Leaves}
use Rattle.shadow.proofs.closing.close_former.Given as goal

abbrev pub invariant-loop-pid : goal.invariant-loop-pid
invariant-loop-pid l = Leaves all_closed l.fn.store l.store (given_in l.former) (given_in (drop l._pid-index l.former))
