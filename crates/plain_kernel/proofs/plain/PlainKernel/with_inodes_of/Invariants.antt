use Rattle.std.proofs.Common.{◌≡◌, ◌++◌, drop}
use Rattle.freeing_laws.specs.Sweep.{inodes_of}
use Rattle.plain_kernel.proofs.plain.PlainKernel.with_inodes_of.Given as goal

abbrev pub invariant-loop-num : goal.invariant-loop-num
invariant-loop-num l = l.fn.inodes.items ++ inodes_of l.self l.gone ≡ l.inodes.items ++ inodes_of l.self (drop l.num-index l.gone)
