use Rattle.std.proofs.Common.{rules, ◌≡◌, [], ◌∷◌, Some, ap, ◌∙◌}
use Rattle.atomic_table.specs.Table.{Me, rest}
use Rattle.turnstile.specs.Histories.{IsLegal}
use Rattle.turnstile.specs.declared.rule.Role.{Role}
use Rattle.turnstile.specs.declared.rule.Role.TheVariants.{Takes}
use Rattle.turnstile.specs.Rule.{having_seen, given_born}
use Rattle.turnstile.specs.Holding.{taker_of}
use Rattle.turnstile.proofs.Calls.{history}
use Rattle.turnstile.proofs.Steps.{gives_born_at, bears_at}
use Rattle.turnstile.proofs.turnstile.Turnstile.bear.Goals as goal

pub swap-requires : goal.swap-requires
swap-requires g c = let k = c.requires.kernel in
    let is : c.exchange.new.seat.me ≡ (Takes (taker_of c.args.seat.now.me.0), (0, Some c.args.kernel) ∷ []) = c.exchange.ensures.3 ∙ ap (λ (m : Me _ Role). (m.0, (0, Some c.args.kernel) ∷ rest m.1)) c.requires.seat.1 in
    (search rules, search rules, gives_born_at (history g.K.Machine.shown) IsLegal _ _ _ _ (taker_of c.args.seat.now.me.0) c.args.kernel is c.self.invariant.1 k.0 k.1 k.2)

pub split_seat-requires : goal.split_seat-requires
split_seat-requires g c =
    let is : c.exchange.new.seat.me ≡ (Takes (taker_of c.args.seat.now.me.0), (0, Some c.args.kernel) ∷ []) = c.exchange.ensures.3 ∙ ap (λ (m : Me _ Role). (m.0, (0, Some c.args.kernel) ∷ rest m.1)) c.requires.seat.1 in
    (search rules, search rules, bears_at (history g.K.Machine.shown) IsLegal _ _ _ (having_seen (taker_of c.args.seat.now.me.0) (g.K.Machine.shown c.args.kernel).log) (ap (λ (m : Me _ Role). m.0) c.swap.ensures.2 ∙ ap (λ (m : Me _ Role). given_born (history g.K.Machine.shown) m.0 m.1) is))
