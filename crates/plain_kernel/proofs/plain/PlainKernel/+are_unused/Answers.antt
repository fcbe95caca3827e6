use Rattle.std.proofs.Common.{arith}
use Rattle.std.proofs.lemmas.Bool.Decides.{not_from_Decides}
use Rattle.plain_kernel.specs.Chosen.{IsUnused}
use Rattle.plain_kernel.proofs.Choosing.{decides_first, decides_none, decides_rest, rest_shorter}
use Rattle.plain_kernel.proofs.plain.PlainKernel.+are_unused.Goals as goal

pub are_unused-requires : goal.are_unused-requires
are_unused-requires t c = (omega (arith, rest_shorter c.args.nums.now c.in-len1-up.len_at_least, c.decreases), tt)

pub returns-in-empty : goal.returns-in-empty
returns-in-empty t c = decides_none (IsUnused c.args.self.now) c.args.nums.now (omega (arith, c.in-empty.len_below))

pub returns-then-is_unused : goal.returns-then-is_unused
returns-then-is_unused t c = decides_rest (IsUnused c.args.self.now) c.are_unused.result c.args.nums.now c.num-item.result c.in-len1-up.len_at_least c.num-item.is (c.is_unused.ensures.0 c.if-is_unused.true) c.are_unused.ensures

pub returns-else-is_unused : goal.returns-else-is_unused
returns-else-is_unused t c = decides_first (IsUnused c.args.self.now) c.is_unused.result c.args.nums.now c.num-item.result c.in-len1-up.len_at_least c.num-item.is c.if-is_unused.false (not_from_Decides c.is_unused.result c.is_unused.ensures c.if-is_unused.false)
