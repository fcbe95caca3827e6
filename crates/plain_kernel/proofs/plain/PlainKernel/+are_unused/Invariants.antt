use Rattle.std.proofs.Common.{length}
use Rattle.plain_kernel.proofs.plain.PlainKernel.+are_unused.Given as goal

abbrev pub decreases-are_unused : goal.decreases-are_unused
decreases-are_unused l = length l.nums.now
