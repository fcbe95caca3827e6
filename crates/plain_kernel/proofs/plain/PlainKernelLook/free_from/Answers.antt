use Rattle.std.proofs.Common.{arith}
use Rattle.plain_kernel.proofs.LowestFree.{first_found, none_found}
use Rattle.plain_kernel.proofs.plain.PlainKernelLook.free_from.Goals as goal

pub returns-then-free-open_limit-clause-value : goal.returns-then-free-open_limit-clause-value
returns-then-free-open_limit-clause-value c = first_found c.args.self.now c.args.pid c.args.first c.lowest-free.result c.open_limit.result c.open_limit.ensures.value c.lowest-free.ensures.from c.lowest-free.ensures.free c.lowest-free.ensures.open c.if-free-open_limit.true

pub returns-else-free-open_limit-clause-value : goal.returns-else-free-open_limit-clause-value
returns-else-free-open_limit-clause-value c = none_found c.args.self.now c.args.pid c.args.first c.lowest-free.result c.open_limit.result c.open_limit.ensures.value c.lowest-free.ensures.open (omega (arith, c.if-free-open_limit.false))
