use Rattle.std.proofs.Common.{rules, ap, ◌≤◌, arith}
use Rattle.atomic_table.specs.Table.{Me}
use Rattle.turnstile.specs.Histories.{IsLegal, made_of}
use Rattle.turnstile.specs.declared.rule.Role.{Role}
use Rattle.turnstile.proofs.Calls.{history}
use Rattle.turnstile.proofs.Steps.{deals_at}
use Rattle.turnstile.proofs.turnstile.deal.Goals as goal

pub split_seat-seat-requires : goal.split_seat-seat-requires
split_seat-seat-requires g c = let made = c.requires.made in let near : c.loop-i.i ≤ made_of c.args.lock.now.shared.key.value = omega arith in
    (search rules, search rules, deals_at (history g.K.Machine.shown) IsLegal c.args.lock.now.shared.key.value c.loop-i.dealer.id c.loop-i.i _ c.args.lock.now.shared.key.value (ap (λ (m : Me _ Role). m.0) c.loop-i.invariant.me) near)
