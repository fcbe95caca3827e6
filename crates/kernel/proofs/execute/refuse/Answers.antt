use Rattle.kernel.proofs.Words.{limit_of, refl, sym, ap, subst, idle, live, Do, Aborted, Busy, Clash, Inside, Outcome, Calls, CanEndTransaction, fields, moment}
use Rattle.kernel.proofs.Words.{plain}
use Rattle.kernel.proofs.Entries.{ends, free_at, leaves, none_else, settles}
use Rattle.kernel.proofs.execute.refuse.Goals as goal

-- a plain call is put off
pub add_entry-requires : goal.add_entry-requires
add_entry-requires c =
    let f = fields c.args.s.now in
    let e = plain c.args.pid (Do c.args.call) (Busy c.args.cause) in
    let asks = subst (λ w. Calls f e.pid w c.args.call) c.in-None.is c.requires.asks in
    rw c.busy.ensures (leaves f asks.holds e.pid e.op e.reply idle asks.stands
    (subst (λ o. Outcome (moment f.log) e idle c.args.call o) (sym c.requires.lost) (refl, none_else e.pid e.op e.reply), free_at f e.pid e.op idle asks.stands asks.place) refl refl refl (λ n t. refl))

-- and a live transaction is undone
pub end_transaction-requires : goal.end_transaction-requires
end_transaction-requires c =
    let f = fields c.args.s.now in
    let w = c.in-Some.live in
    let again = c.restarts-again.result in
    let e = plain c.args.pid (Do c.args.call) (Aborted (Clash c.args.cause) again) in
    let asks = subst (λ w. Calls f e.pid w c.args.call) c.in-Some.is c.requires.asks in
    let s = live w.0 w.1 asks.stands.0 in
    subst (λ r. CanEndTransaction f e.pid e.op r again w.0 w.1) (sym c.aborted-told.ensures)
    (ends f asks.holds e.pid e.op e.reply s asks.stands.1 (subst (λ b. Inside (limit_of f.log) (moment f.log) e s w.0 c.args.call b) (sym (asks.supported refl))
    (subst (λ o. Outcome (moment f.log) e s c.args.call o) (sym c.requires.lost) (ap (Aborted (Clash c.args.cause)) c.restarts-again.ensures, none_else e.pid e.op e.reply), free_at f e.pid e.op s asks.stands.1 asks.place)) refl refl
    again w.0 w.1 (λ h. absurd cc) refl (settles s w.0 w.1 again refl refl))
