use Rattle.renaming_laws.proofs.Told.{root_is_free}
use Rattle.renaming_laws.proofs.root_is_free.Goals as goal

pub returns : goal.returns
returns c = root_is_free
