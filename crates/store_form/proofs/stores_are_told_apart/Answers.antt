use Rattle.store_form.proofs.Laws.{stores_are_told_apart}
use Rattle.store_form.proofs.stores_are_told_apart.Goals as goal

pub returns : goal.returns
returns c = stores_are_told_apart
