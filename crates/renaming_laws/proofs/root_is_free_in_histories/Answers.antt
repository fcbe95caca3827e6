use Rattle.renaming_laws.proofs.Histories.{root_is_free_in_histories}
use Rattle.renaming_laws.proofs.root_is_free_in_histories.Goals as goal

pub returns : goal.returns
returns c = root_is_free_in_histories
