use Rattle.kernel.proofs.Words.{◌∙◌, refl, sym, ap, subst, if◌then◌else◌, false, Aborted, CanEndTransaction, Do, fields, live}
use Rattle.model.specs.Plan.{ENOTSUP}
use Rattle.model.specs.Entries.{Refuses, Unsupported}
use Rattle.kernel.proofs.Entries.{denied, ends, leaves, not_executed}
use Rattle.kernel.proofs.step.deny.Goals as goal

pub end_transaction-requires : goal.end_transaction-requires
end_transaction-requires c =
    let f = fields c.args.s.now in
    let pid = c.args.pid in
    let op = Do c.args.call in
    let reply = Aborted Unsupported false in
    let l = c.requires.asks.stands in
    let s = live c.args.flags c.args.age l.0 in
    subst (λ r. CanEndTransaction f pid op r false c.args.flags c.args.age) (sym (c.new-told.ensures ∙ c.unsupported.ensures))
    (ends f c.requires.asks.holds pid op reply s l.1
    (denied f pid c.args.call reply s c.args.flags l.1 c.requires.asks.place c.requires.outside (ap (λ b. if b then Aborted Unsupported false else Refuses ENOTSUP) (sym (sym c.aborts_unsupported.ensures ∙ c.if-aborts_unsupported.true))) c.args.age l.0 refl) refl refl
    false c.args.flags c.args.age (λ h. absurd cc) refl refl)

pub add_entry-requires : goal.add_entry-requires
add_entry-requires c =
    let f = fields c.args.s.now in
    let pid = c.args.pid in
    let op = Do c.args.call in
    let reply = Refuses ENOTSUP in
    let l = c.requires.asks.stands in
    let s = live c.args.flags c.args.age l.0 in
    rw c.new-refused.ensures (leaves f c.requires.asks.holds pid op reply s l.1
    (denied f pid c.args.call reply s c.args.flags l.1 c.requires.asks.place c.requires.outside (ap (λ b. if b then Aborted Unsupported false else Refuses ENOTSUP) (sym (sym c.aborts_unsupported.ensures ∙ c.if-aborts_unsupported.false))) c.args.age l.0 refl) refl refl
    refl (not_executed c.args.call))
