use Rattle.std.proofs.Common.{rules, ℕ, Some, List, ◌∷◌, sym, ap, ◌∙◌}
use mathlib.Core.Option.{none}
use Rattle.atomic_table.specs.Table.{Me, Step, step, rest}
use Rattle.turnstile.specs.Histories.{IsLegal}
use Rattle.turnstile.specs.Passes.{pass_of}
use Rattle.turnstile.specs.declared.rule.Role.{Role}
use Rattle.turnstile.proofs.Steps.{awaits_at, took_hit, took_miss}
use Rattle.turnstile.proofs.Calls.{history, same_seat, takes_out}
use Rattle.turnstile.proofs.turnstile.Turnstile.await_and_take.Goals as goal

pub swap-requires : goal.swap-requires
swap-requires g c = (search rules, search rules, awaits_at _ _ _ _ _ _ (pass_of c.args.seat.now.me.0) c.requires.1)

abbrev any_step : {S : Type 0} → Step S
any_step = step 0 0 2 0 none

pub returns-then-swap-ne-FREE-clause-none :
    goal.returns-then-swap-ne-FREE-clause-none
returns-then-swap-ne-FREE-clause-none g c = let e = c.swap.ensures in
    same_seat c.args.seat.now c.swap.new.seat e.0 e.1 (took_miss (history g.K.Machine.shown) IsLegal any_step _ _ (pass_of c.args.seat.now.me.0) c.requires.1 _ c.if-swap-ne-FREE.true e.2)

pub exchange-requires : goal.exchange-requires
exchange-requires g c = let e = c.swap.ensures in
    let t = took_hit (history g.K.Machine.shown) IsLegal any_step _ _ (pass_of c.args.seat.now.me.0) c.requires.1 _ c.if-swap-ne-FREE.false e.2 in
    let out = ap (λ (m : Me _ Role). m.1) t.1 in
    (e.0 ∙ (c.requires.0 ∙ sym (ap (λ z. z.table) c.self.view_is)), (Some t.0, out ∙ ap (λ (xs : List (ℕ × _)). (0, Some t.0) ∷ rest xs) (sym out)))

pub returns-clause-some : goal.returns-clause-some
returns-clause-some g c = let e = c.swap.ensures in let x = c.exchange.ensures in
    let t = took_hit (history g.K.Machine.shown) IsLegal any_step _ _ (pass_of c.args.seat.now.me.0) c.requires.1 _ c.if-swap-ne-FREE.false e.2 in
    (takes_out g.K.Machine.shown c.args.seat.now c.swap.new.seat c.exchange.new.seat c.exchange.result t.0 e.0 e.1 t.1 t.2 x.0 x.1 x.2 x.3).0

pub returns-clause-none : goal.returns-clause-none
returns-clause-none g c = let e = c.swap.ensures in let x = c.exchange.ensures in
    let t = took_hit (history g.K.Machine.shown) IsLegal any_step _ _ (pass_of c.args.seat.now.me.0) c.requires.1 _ c.if-swap-ne-FREE.false e.2 in
    (takes_out g.K.Machine.shown c.args.seat.now c.swap.new.seat c.exchange.new.seat c.exchange.result t.0 e.0 e.1 t.1 t.2 x.0 x.1 x.2 x.3).1
