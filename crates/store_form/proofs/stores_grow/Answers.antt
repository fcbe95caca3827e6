use Rattle.store_form.proofs.Laws.{stores_grow}
use Rattle.store_form.proofs.stores_grow.Goals as goal

pub returns : goal.returns
returns c = stores_grow
