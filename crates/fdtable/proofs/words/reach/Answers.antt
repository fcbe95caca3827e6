use Rattle.std.proofs.Common.{◌≡◌, ◌+◌, length, ap, ◌∙◌, arith}
use Rattle.std.proofs.lemmas.List.{length_push}
use Rattle.fdtable.specs.Words.{bit_in}
use Rattle.fdtable.proofs.Bits.{bit_push}
use Rattle.fdtable.proofs.words.reach.Goals as goal

pub loop-words-preserved : goal.loop-words-preserved
loop-words-preserved c =
    let count : length c.push.new.self.items ≡ length c.loop-words.words.items + 1 = ap length c.in_ok-push.ensures.items ∙ length_push c.loop-words.words.items 0 in
    let few = c.loop-words.invariant.1 in
    let longer = c.loop-words.invariant.2 in
    (λ i. ap (λ ws. bit_in ws i) c.in_ok-push.ensures.items ∙ bit_push c.loop-words.words.items i ∙ c.loop-words.invariant.0 i, omega (arith, count, few), omega (arith, count, longer))
