use Rattle.fdtable.proofs.Bits.{marked_here, marked_other}
use Rattle.fdtable.proofs.words.mark.Goals as goal

pub returns-clause-here : goal.returns-clause-here
returns-clause-here c = marked_here c.args.words.now c.args.bit c.with_bit.result _ c.requires c.with_bit.ensures.here

pub returns-clause-others : goal.returns-clause-others
returns-clause-others c i away = marked_other c.args.words.now c.args.bit c.with_bit.result i c.requires c.with_bit.ensures.others away
