use Rattle.std.proofs.Common.{rules, ◌≡◌, ap, subst, ◌∙◌}
use Rattle.atomic_table.specs.Table.{Me}
use Rattle.turnstile.specs.Histories.{IsLegal}
use Rattle.turnstile.specs.declared.rule.Role.{Role}
use Rattle.turnstile.specs.declared.rule.Role.TheVariants.{Knows}
use Rattle.turnstile.specs.Rule.{informed, Compared}
use Rattle.turnstile.specs.Passes.{pass_of}
use Rattle.turnstile.proofs.Calls.{history, same_seat}
use Rattle.turnstile.proofs.Meeting.{copied_is, informed_is, as_before}
use Rattle.turnstile.proofs.Steps.{copies_at, informs_at, compares_at}
use Rattle.turnstile.proofs.turnstile.Turnstile.compare.Goals as goal

pub split_seat-copy-requires : goal.split_seat-copy-requires
split_seat-copy-requires g c = (search rules, search rules, copies_at (history g.K.Machine.shown) IsLegal _ _ _ (pass_of c.args.other.now.me.0) (ap (λ (m : Me _ Role). m.0) c.requires.other.1))

pub join_seat-requires : goal.join_seat-requires
join_seat-requires g c = let copy = c.split_seat-copy.ensures in
    let knows : c.split_seat-copy.result.me.0 ≡ Knows (pass_of c.args.other.now.me.0).seen = ap (λ (m : Me _ Role). m.0) copy.4 ∙ copied_is c.args.other.now.me.0 (ap (λ (m : Me _ Role). m.0) c.requires.other.1) in
    (search rules, search rules, ap (λ (m : Me _ Role). m.1) copy.4, search rules, informs_at (history g.K.Machine.shown) IsLegal _ _ _ _ _ (pass_of c.args.seat.now.me.0) (pass_of c.args.other.now.me.0).seen (ap (λ (m : Me _ Role). m.0) c.requires.seat.1) knows)

pub load-requires : goal.load-requires
load-requires g c = let join = c.join_seat.ensures in let copy = c.split_seat-copy.ensures in
    let meets = ap (λ (m : Me _ Role). m.0) join.2 ∙ (ap (λ (m : Me _ Role). informed c.args.seat.now.me.0 m.0) copy.4 ∙ informed_is c.args.seat.now.me.0 c.args.other.now.me.0 (ap (λ (m : Me _ Role). m.0) c.requires.seat.1) (ap (λ (m : Me _ Role). m.0) c.requires.other.1)) in
    (search rules, search rules, compares_at (history g.K.Machine.shown) IsLegal _ _ _ _ (pass_of c.args.seat.now.me.0) (pass_of c.args.other.now.me.0).seen meets)

pub returns-clause-same : goal.returns-clause-same
returns-clause-same g c = let join = c.join_seat.ensures in let copy = c.split_seat-copy.ensures in let load = c.load.ensures in let rest = ap (λ (m : Me _ Role). m.0) c.requires.seat.1 in
    let meets = ap (λ (m : Me _ Role). informed c.args.seat.now.me.0 m.0) copy.4 ∙ informed_is c.args.seat.now.me.0 c.args.other.now.me.0 rest (ap (λ (m : Me _ Role). m.0) c.requires.other.1) in (
      same_seat c.args.seat.now c.load.new.seat (load.0 ∙ join.0) (load.1 ∙ join.1) (as_before c.args.seat.now.me c.join_seat.new.seat.me c.load.new.seat.me _ (pass_of c.args.other.now.me.0).seen join.2 meets rest load.2.0),
      same_seat c.args.other.now c.split_seat-copy.new.seat copy.0 copy.1 copy.2,
    )

pub returns-clause-compared : goal.returns-clause-compared
returns-clause-compared g c = let join = c.join_seat.ensures in let copy = c.split_seat-copy.ensures in let load = c.load.ensures in let rest = ap (λ (m : Me _ Role). m.0) c.requires.seat.1 in
    let meets = ap (λ (m : Me _ Role). m.0) join.2 ∙ (ap (λ (m : Me _ Role). informed c.args.seat.now.me.0 m.0) copy.4 ∙ informed_is c.args.seat.now.me.0 c.args.other.now.me.0 rest (ap (λ (m : Me _ Role). m.0) c.requires.other.1)) in
    subst Compared meets load.2.1
