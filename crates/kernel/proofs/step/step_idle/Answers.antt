use Rattle.kernel.proofs.Words.{refl, subst, sym, Abort, Asks, CanEnter, End, NotInTransaction, fields, idle, plain, Idle}
use Rattle.kernel.proofs.Entries.{free_at, leaves, none_else}
use Rattle.kernel.proofs.step.step_idle.Goals as goal

pub add_entry-requires : goal.add_entry-requires
add_entry-requires c =
    let f = fields c.args.s.now in
    let asks = subst (Asks f c.args.pid Idle) c.in-End.is c.requires in
    subst (λ r. CanEnter f (plain c.args.pid End r)) (sym c.outside.ensures)
    (leaves f asks.holds c.args.pid End NotInTransaction idle asks.stands (refl, none_else c.args.pid End NotInTransaction, free_at f c.args.pid End idle asks.stands asks.place) refl refl refl (λ n t. refl))

pub add_entry-requires-in-Abort : goal.add_entry-requires-in-Abort
add_entry-requires-in-Abort c =
    let f = fields c.args.s.now in
    let op = Abort c.in-Abort.no_restart in
    let asks = subst (Asks f c.args.pid Idle) c.in-Abort.is c.requires in
    subst (λ r. CanEnter f (plain c.args.pid op r)) (sym c.outside-in-Abort.ensures)
    (leaves f asks.holds c.args.pid op NotInTransaction idle asks.stands (refl, none_else c.args.pid op NotInTransaction, free_at f c.args.pid op idle asks.stands asks.place) refl refl refl (λ n t. refl))
