use Rattle.std.proofs.Common.{sym, ap}
use Rattle.plain_kernel.proofs.Holding.{held_told, held_with}
use Rattle.plain_kernel.proofs.plain.PlainKernel.is_held.Goals as goal

pub returns : goal.returns
returns c = held_told c.args.self.now c.self.inside.holders c.args.description c.of.result
    (held_with _ _ _ _ _ (sym (ap (λ k. k.descriptions) c.self.view_is)) (sym (ap (λ k. k.processes) c.self.view_is)) c.self.invariant.1) c.of.ensures
