use Rattle.std.proofs.Common.{◌≡◌, drop}
use Rattle.freeing_laws.specs.Sweep.{free_descriptions}
use Rattle.plain_kernel.proofs.plain.PlainKernel.free_descriptions.Given as goal

abbrev pub invariant-loop-num : goal.invariant-loop-num
invariant-loop-num l = free_descriptions l.nums l.fn.self ≡ free_descriptions (drop l.num-index l.nums) l.self
