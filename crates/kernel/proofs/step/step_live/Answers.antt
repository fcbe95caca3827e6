use Rattle.kernel.proofs.Words.{refl, subst, Asks, Begin, InTransaction, fields, live, Live}
use Rattle.kernel.proofs.Entries.{free_at, leaves, none_else}
use Rattle.kernel.proofs.step.step_live.Goals as goal

pub add_entry-requires : goal.add_entry-requires
add_entry-requires c =
    let f = fields c.args.s.now in
    let op = Begin c.in-Begin.flags in
    let asks = subst (Asks f c.args.pid (Live c.args.flags c.args.age)) c.in-Begin.is c.requires in
    let s = live c.args.flags c.args.age asks.stands.0 in
    rw c.new-told.ensures (leaves f asks.holds c.args.pid op InTransaction s asks.stands.1 (refl, none_else c.args.pid op InTransaction, free_at f c.args.pid op s asks.stands.1 asks.place) refl refl refl (λ n t. refl))
