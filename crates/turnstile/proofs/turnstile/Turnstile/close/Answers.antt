use Rattle.std.proofs.Common.{rules, ℕ, Some, List, ◌∷◌, [], sym, ap, ◌∙◌}
use mathlib.Core.Option.{none}
use Rattle.atomic_table.specs.Table.{Me, Step, step, rest}
use Rattle.turnstile.specs.Histories.{IsLegal}
use Rattle.turnstile.specs.declared.rule.Role.{Role}
use Rattle.turnstile.specs.declared.rule.Role.TheVariants.{Deals}
use Rattle.turnstile.proofs.Calls.{history}
use Rattle.turnstile.proofs.Closing.{closes_out}
use Rattle.turnstile.proofs.Steps.{closes_kernel, closed_hit}
use Rattle.turnstile.proofs.turnstile.Turnstile.close.Goals as goal

pub swap_new_seat-found-requires : goal.swap_new_seat-found-requires
swap_new_seat-found-requires g c = (search rules, closes_kernel (history g.K.Machine.shown) IsLegal c.self.inside.table.shared.key.value _)

abbrev any_step : {S : Type 0} → Step S
any_step = step 0 0 0 0 none

pub exchange-requires : goal.exchange-requires
exchange-requires g c = let n = c.swap_new_seat-found.ensures in
    let t = closed_hit (history g.K.Machine.shown) IsLegal c.self.inside.table.shared.key.value any_step (Deals 0 c.self.inside.table.shared.key.value, []) c.swap_new_seat-found.result.1.me c.swap_new_seat-found.result.0 c.if-found-ne-FREE.false n.1 in
    let out = ap (λ (m : Me _ Role). m.1) (c.check_passes.ensures.seat.1 ∙ t.1) in
    (c.check_passes.ensures.seat.0.0 ∙ n.0, (Some t.0, out ∙ ap (λ (xs : List (ℕ × _)). (0, Some t.0) ∷ rest xs) (sym out)))

pub returns-clause-passes : goal.returns-clause-passes
returns-clause-passes g c = let n = c.swap_new_seat-found.ensures in
    let t = closed_hit (history g.K.Machine.shown) IsLegal c.self.inside.table.shared.key.value any_step (Deals 0 c.self.inside.table.shared.key.value, []) c.swap_new_seat-found.result.1.me c.swap_new_seat-found.result.0 c.if-found-ne-FREE.false n.1 in
    closes_out g.K.Machine.shown c.exchange.result c.swap_new_seat-found.result.1.me c.check_passes.new.seat.me t.0 c.args.passes.items t.1 c.check_passes.ensures.seat.1 c.exchange.ensures.2 c.check_passes.ensures.passes
