use Rattle.std.proofs.Common.{◌≡◌, ◌<◌, length, get_or, rules, arith, sym}
use Rattle.script.proofs.Decimals.{decimal_by, decimal_empty, decimal_zero_first}
use Rattle.script.proofs.number.decimal_in.Goals as goal
use Rattle.script.proofs.number.decimal_in.Goals.{else-word-gt1-via-then-word-gt1+else-word-eq48, else-word-gt1-via-else-word-gt1}

pub returns-then-is_empty-clause-value : goal.returns-then-is_empty-clause-value
returns-then-is_empty-clause-value c =
    let none : length c.args.word.now ≡ 0 = search rules in
    sym (decimal_empty c.args.most c.args.word.now c.ranges.most.fits none)

pub returns-then-word-eq48-clause-value : goal.returns-then-word-eq48-clause-value
returns-then-word-eq48-clause-value c = sym (decimal_zero_first c.args.most c.args.word.now c.ranges.most.fits c.if-word-gt1.true c.if-word-eq48.true)

pub returns-clause-value : goal.returns-clause-value
returns-clause-value c =
    let word = c.args.word.now in
    let some : 0 < length word = search (rules, arith) in
    let lead : get_or word 0 0 ≡ 48 → length word ≡ 1 = elim c.else-word-gt1.branch [
      | else-word-gt1-via-then-word-gt1+else-word-eq48 w ↦ λ is. absurd (omega (arith, is, w.if-word-eq48.false))
      | else-word-gt1-via-else-word-gt1 w ↦ λ _. omega (arith, some, w.if-word-gt1.false)
    ] in
    decimal_by c.digits_in.result c.args.most word c.ranges.most.fits some lead c.digits_in.ensures.some c.digits_in.ensures.small c.digits_in.ensures.none
