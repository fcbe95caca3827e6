use Rattle.std.proofs.Common.{ap, ◌%◌, ◌∙◌}
use Rattle.std.specs.Int.{bit_at}
use Rattle.fdtable.proofs.Bits.{bit_read}
use Rattle.fdtable.proofs.words.is_set.Goals as goal

pub returns : goal.returns
returns c = bit_read c.word_at.result (c.args.bit % 64) ∙ ap (λ w. bit_at w (c.args.bit % 64)) c.word_at.ensures
