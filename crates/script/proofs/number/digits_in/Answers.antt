use Rattle.std.proofs.Common.{◌≡◌, ◌<◌, ◌≤◌, ◌*◌, ◌+◌, ◌-◌, get_or, take, arith}
use Rattle.std.specs.Str.Parse.{digits_value}
use Rattle.script.proofs.Decimals.{grows, no_digit, one_digit_more}
use Rattle.script.proofs.number.digits_in.Goals as goal
use Rattle.script.proofs.number.digits_in.Goals.{then-byte-lt48-via-then-byte-lt48, then-byte-lt48-via-else-byte-lt48+then-byte-gt57}

pub returns-then-byte-lt48-clause-none : goal.returns-then-byte-lt48-clause-none
returns-then-byte-lt48-clause-none c =
    let word = c.args.word.now in
    let i = c.loop-byte.byte-index in
    elim c.then-byte-lt48.branch [
      | then-byte-lt48-via-then-byte-lt48 w ↦ λ digits. absurd (no_digit word i c.loop-byte-test.true (λ low high. omega (arith, w.if-byte-lt48.true)) digits)
      | then-byte-lt48-via-else-byte-lt48+then-byte-gt57 w ↦ λ digits. absurd (no_digit word i c.loop-byte-test.true (λ low high. omega (arith, w.if-byte-gt57.true)) digits)
    ]

pub returns-then-next-from-clause-none : goal.returns-then-next-from-clause-none
returns-then-next-from-clause-none c =
    let word = c.args.word.now in
    let i = c.loop-byte.byte-index in
    let n = c.loop-byte.n in
    let more = one_digit_more word i n c.loop-byte-test.true c.if-byte-lt48.false c.if-byte-gt57.false c.loop-byte.invariant.0 c.loop-byte.invariant.1 in
    let above : c.args.most < n * 10 + (get_or word i 0 - 48) = omega (arith, c.from.ensures, c.from-in-loop-byte.ensures, c.from-in-loop-byte-2.ensures, c.if-next-from.true) in
    λ _. grows c.args.most (n * 10 + (get_or word i 0 - 48)) i word above more.1

pub loop-byte-preserved : goal.loop-byte-preserved
loop-byte-preserved c =
    let word = c.args.word.now in
    let i = c.loop-byte.byte-index in
    let n = c.loop-byte.n in
    let more = one_digit_more word i n c.loop-byte-test.true c.if-byte-lt48.false c.if-byte-gt57.false c.loop-byte.invariant.0 c.loop-byte.invariant.1 in
    let value : c.from.result * 10 + c.from-in-loop-byte.result ≡ digits_value 10 (take (i + 1) word) = omega (arith, c.from.ensures, c.from-in-loop-byte.ensures, more.1) in
    let small : c.from.result * 10 + c.from-in-loop-byte.result ≤ c.args.most = omega (arith, c.from-in-loop-byte-2.ensures, c.if-next-from.false) in
    (more.0, value, small)
