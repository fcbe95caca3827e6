use Rattle.std.proofs.Common.{◌≡◌, map, take}
use Rattle.model.specs.FiniteMap.{get}
use Rattle.model.specs.Calls.{slot_of}
use Rattle.plain_kernel.proofs.plain.PlainKernelLook.table.Given as goal

abbrev pub invariant-loop-fd : goal.invariant-loop-fd
invariant-loop-fd l = l.all.items ≡ map (λ e. (e.0, slot_of l.self e.1 (get l.self.descriptions e.1))) (take l.fd-index l.slots)
