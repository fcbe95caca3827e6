use Rattle.std.proofs.Common.{◌≡◌, drop}
use Rattle.freeing_laws.specs.Sweep.{free_inodes}
use Rattle.plain_kernel.proofs.plain.PlainKernel.free_inodes.Given as goal

abbrev pub invariant-loop-num : goal.invariant-loop-num
invariant-loop-num l = free_inodes l.nums l.fn.self ≡ free_inodes (drop l.num-index l.nums) l.self
