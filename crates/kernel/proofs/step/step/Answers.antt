use Rattle.kernel.proofs.Words.{rules, ◌≡◌, true, subst, status, moment, Stands, has_place, NoProcess, gone, refl, fields}
use Rattle.kernel.proofs.Entries.{free_at, leaves, none_else}
use Rattle.kernel.proofs.step.step.Goals as goal

pub add_entry-requires : goal.add_entry-requires
add_entry-requires c =
    let log = c.args.s.now.history in
    let stands = subst (λ x. Stands x (status (moment log) c.args.pid)) c.in-Gone.is c.standing_of-standing.ensures in
    let place : has_place log c.args.pid c.args.op ≡ true = search rules in
    rw c.new.ensures (leaves (fields c.args.s.now) c.requires c.args.pid c.args.op NoProcess gone stands
    (refl, none_else c.args.pid c.args.op NoProcess, free_at (fields c.args.s.now) c.args.pid c.args.op gone stands place) refl refl refl (λ n t. refl))
