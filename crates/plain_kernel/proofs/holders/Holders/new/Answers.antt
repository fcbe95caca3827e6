use Rattle.plain_kernel.proofs.Holding.{none_held}
use Rattle.plain_kernel.proofs.holders.Holders.new.Goals as goal

pub returns : goal.returns
returns c = none_held _ c.new.ensures c.new-2.ensures c.new-3.ensures
