use Rattle.std.proofs.Common.{◌+◌, ◌<◌, ◌^◌, ℕ, Some, sym, ap, subst, ◌∙◌, arith}
use Rattle.std.specs.Int.{bit_at}
use Rattle.std.proofs.lemmas.Nat.Bits.{bit_at_ones, bit_at-trailing_ones}
use Rattle.fdtable.specs.Words.{IsLowestClear}
use Rattle.fdtable.proofs.words.lowest_clear.Goals as goal
use mir.Syntax.{w64}

pub returns-then-word-eq18446744073709551615 : goal.returns-then-word-eq18446744073709551615
returns-then-word-eq18446744073709551615 c i low = ap (λ w. bit_at w i) c.if-word-eq18446744073709551615.true ∙ bit_at_ones 64 i low

pub returns-else-word-eq18446744073709551615 : goal.returns-else-word-eq18446744073709551615
returns-else-word-eq18446744073709551615 c =
    let small : c.args.word + 1 < 2 ^ 64 = omega arith in
    subst (λ (b : ℕ). IsLowestClear c.args.word (Some b)) (sym c.trailing_ones.ensures) (bit_at-trailing_ones w64 c.args.word small)
