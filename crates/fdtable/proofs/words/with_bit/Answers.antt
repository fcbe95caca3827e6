use Rattle.std.proofs.Common.{sym, ap, ◌∙◌}
use Rattle.std.proofs.lemmas.Nat.Bits.{bit_at_clear_other, bit_at_clear_same, bit_at_set_other, bit_at_set_same}
use Rattle.fdtable.specs.Words.{as_bit}
use Rattle.fdtable.proofs.words.with_bit.Goals as goal
use mir.Syntax.{w64}

pub returns-then-is_set-clause-here : goal.returns-then-is_set-clause-here
returns-then-is_set-clause-here c = bit_at_set_same w64 c.args.word c.args.bit c.requires ∙ sym (ap as_bit c.if-is_set.true)

pub returns-then-is_set-clause-others : goal.returns-then-is_set-clause-others
returns-then-is_set-clause-others c i low away = bit_at_set_other w64 c.args.word c.args.bit c.requires i away

pub returns-else-is_set-clause-here : goal.returns-else-is_set-clause-here
returns-else-is_set-clause-here c = bit_at_clear_same w64 c.args.word c.args.bit c.requires ∙ sym (ap as_bit c.if-is_set.false)

pub returns-else-is_set-clause-others : goal.returns-else-is_set-clause-others
returns-else-is_set-clause-others c i low away = bit_at_clear_other w64 c.args.word c.args.bit c.requires i low away
