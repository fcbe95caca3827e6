-- The slots so far are those of the entries so far.
use Rattle.std.proofs.Common.{◌≡◌, map, take}
use Rattle.model.specs.FiniteMap.{get}
use Rattle.model.specs.Calls.{slot_of}
use Rattle.shadow.proofs.view.ViewLook.table.Given as goal

abbrev pub invariant-loop-fd : goal.invariant-loop-fd
invariant-loop-fd l = l.slots.items ≡ map (λ e. (e.0, slot_of l.self.state e.1 (get l.self.state.descriptions e.1))) (take l.fd-index l.fd-items)
