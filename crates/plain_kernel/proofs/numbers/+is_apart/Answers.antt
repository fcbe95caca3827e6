use Rattle.std.proofs.Common.{◌≢◌, arith}
use Rattle.plain_kernel.proofs.Choosing.{apart_by, decides_first, decides_none, decides_rest, rest_shorter, same_by}
use Rattle.plain_kernel.proofs.numbers.+is_apart.Goals as goal

pub is_apart-requires : goal.is_apart-requires
is_apart-requires t c = (omega (arith, rest_shorter c.args.others.now c.in-len1-up.len_at_least, c.decreases), tt)

pub returns-in-empty : goal.returns-in-empty
returns-in-empty t c = decides_none (λ m. c.args.num ≢ m) c.args.others.now (omega (arith, c.in-empty.len_below))

pub returns-then-ne : goal.returns-then-ne
returns-then-ne t c = decides_rest (λ m. c.args.num ≢ m) c.is_apart.result c.args.others.now c.other-item.result c.in-len1-up.len_at_least c.other-item.is (apart_by c.args.num c.other-item.result c.if-ne.ensures) c.is_apart.ensures

pub returns-else-ne : goal.returns-else-ne
returns-else-ne t c = decides_first (λ m. c.args.num ≢ m) c.ne.result c.args.others.now c.other-item.result c.in-len1-up.len_at_least c.other-item.is c.if-ne.false (λ apart. apart (same_by c.args.num c.other-item.result c.if-ne.ensures))
