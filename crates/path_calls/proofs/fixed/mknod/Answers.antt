use Rattle.std.proofs.Common.{sym, ap}
use Rattle.walk.proofs.Laws.{via}
use Rattle.path_calls.specs.Parts.{made}
use Rattle.path_calls.proofs.fixed.mknod.Goals as goal

pub returns : goal.returns
returns g c pid = via (ap (made (g.L.Look.state c.args.look.now).bounds.path_bytes (g.L.Look.state c.args.look.now).root c.args.path.now) (sym c.object.ensures)) c.made.ensures
