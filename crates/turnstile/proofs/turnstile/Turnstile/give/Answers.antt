use Rattle.std.proofs.Common.{rules, ◌≡◌, [], ◌∷◌, Some, ap, ◌∙◌}
use Rattle.atomic_table.specs.Table.{Me, rest}
use Rattle.turnstile.specs.Histories.{IsLegal}
use Rattle.turnstile.specs.declared.rule.Role.{Role}
use Rattle.turnstile.specs.declared.rule.Role.TheVariants.{Takes}
use Rattle.turnstile.specs.Holding.{taker_of}
use Rattle.turnstile.proofs.Calls.{history}
use Rattle.turnstile.proofs.Steps.{gives_at}
use Rattle.turnstile.proofs.turnstile.Turnstile.give.Goals as goal

pub swap-requires : goal.swap-requires
swap-requires g c = let e = c.exchange.ensures in
    let is : c.exchange.new.seat.me ≡ (Takes (taker_of c.args.seat.now.me.0), (0, Some c.args.kernel) ∷ []) = e.3 ∙ ap (λ (m : Me _ Role). (m.0, (0, Some c.args.kernel) ∷ rest m.1)) c.requires.seat.1 in
    (search rules, search rules, gives_at (history g.K.Machine.shown) IsLegal _ _ _ _ (taker_of c.args.seat.now.me.0) c.args.kernel is c.self.invariant.1 c.requires.kernel.0 c.requires.kernel.1)
