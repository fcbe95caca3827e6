use Rattle.std.proofs.Common.{refl}
use Rattle.mount_requests.specs.Seen.{seen}
use Rattle.mounted.proofs.Ordering.{not_ordered}
use Rattle.mounted.proofs.serving.Serving.write_control.Goals as goal

pub returns-in-Err-clause-orders : goal.returns-in-Err-clause-orders
returns-in-Err-clause-orders g c =
    let h = rw c.as_slice.ensures at c.ordered.ensures in
    not_ordered (seen c.args.self.now.tables) (seen c.args.self.now.tables) c.args.view c.args.bytes.now c.in-Err.failure h c.in-Err.is refl refl c.reply_of.ensures
