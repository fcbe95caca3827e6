use Rattle.std.proofs.Common.{arith}
use Rattle.std.proofs.lemmas.Bool.Decides.{not_from_Decides}
use Rattle.plain_kernel.proofs.Choosing.{different_first, different_none, different_rest, rest_shorter}
use Rattle.plain_kernel.proofs.numbers.+are_different.Goals as goal

pub are_different-requires : goal.are_different-requires
are_different-requires t c = (omega (arith, rest_shorter c.args.nums.now c.in-len1-up.len_at_least, c.decreases), tt)

pub returns-in-empty : goal.returns-in-empty
returns-in-empty t c = different_none c.args.nums.now (omega (arith, c.in-empty.len_below))

pub returns-then-is_apart : goal.returns-then-is_apart
returns-then-is_apart t c = different_rest c.are_different.result c.args.nums.now c.num-item.result c.in-len1-up.len_at_least c.num-item.is (c.is_apart.ensures.0 c.if-is_apart.true) c.are_different.ensures

pub returns-else-is_apart : goal.returns-else-is_apart
returns-else-is_apart t c = different_first c.is_apart.result c.args.nums.now c.num-item.result c.in-len1-up.len_at_least c.num-item.is c.if-is_apart.false (not_from_Decides c.is_apart.result c.is_apart.ensures c.if-is_apart.false)
