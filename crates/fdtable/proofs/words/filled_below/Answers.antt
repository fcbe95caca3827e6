use Rattle.fdtable.proofs.Bits.{filled_kept, filled_set}
use Rattle.fdtable.proofs.words.filled_below.Goals as goal

pub returns-clause-below : goal.returns-clause-below
returns-clause-below c i low = filled_set c.args.word c.args.bit i c.requires low

pub returns-clause-others : goal.returns-clause-others
returns-clause-others c i high = filled_kept c.args.word c.args.bit i c.requires high
