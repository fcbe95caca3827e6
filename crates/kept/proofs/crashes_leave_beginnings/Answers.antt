use Rattle.kept.proofs.Recovering.{crashes_leave_beginnings}
use Rattle.kept.proofs.crashes_leave_beginnings.Goals as goal

pub returns : goal.returns
returns g c = crashes_leave_beginnings g.D.Disk
