use Rattle.store_laws.proofs.Resuming.{reopened_stores_go_on}
use Rattle.store_laws.proofs.reopened_stores_go_on.Goals as goal

pub returns : goal.returns
returns g c = reopened_stores_go_on g.D.Disk
