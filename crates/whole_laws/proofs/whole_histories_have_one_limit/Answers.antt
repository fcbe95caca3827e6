use Rattle.whole_laws.proofs.Whole.{whole_histories_have_one_limit_lem}
use Rattle.whole_laws.proofs.whole_histories_have_one_limit.Goals as goal

pub returns : goal.returns
returns c = whole_histories_have_one_limit_lem
