use Rattle.kernel.proofs.Words.{limit_of, unwrap_or, ◌≡◌, Option, Some, refl, sym, ap, subst, ◌∙◌, Aborted, Cause, Clash, RightAt, doomed, Committed, cause_of}
use Rattle.kernel.proofs.Words.{changes_in, doomed_slot, view_at, moment, CanEndTransaction, plain, fields, shown_by, changes_of}
use Rattle.kernel.proofs.Entries.{closes, commits_nothing, none_else, settles}
use Rattle.kernel.proofs.step.notice.Goals as goal
use Rattle.kernel.proofs.step.notice.Goals.{After-is_restarted-restarted}

-- its slot has its cause
view : (c : After-is_restarted-restarted) → view_at c.args.s.now.transactions.slots c.args.pid ≡ doomed_slot c.requires.stands.0 c.args.flags c.args.age
view c = ap (λ p. p.slot) (c.requires.holds.parts c.args.pid) ∙ ap (λ s. shown_by s (changes_of (moment c.args.s.now.history) c.args.pid)) c.requires.stands.1

pub take_cause-requires-clause-unchanged : goal.take_cause-requires-clause-unchanged
take_cause-requires-clause-unchanged c = ap changes_in (view (goal.at.take_cause-requires-clause-unchanged c).After-is_restarted-restarted)

pub end_transaction-requires : goal.end_transaction-requires
end_transaction-requires c =
    let f = fields c.args.s.now in
    let cause = c.requires.stands.0 in
    let again = c.is_restarted-restarted.result in
    let taken = c.take_cause.new.self in
    let s = doomed cause c.args.flags c.args.age in
    let reply = Aborted (Clash cause) again in
    let taken_is : Some cause ≡ Some c.in-Some.cause = sym (c.take_cause.ensures.cause ∙ ap cause_of (view (goal.at.end_transaction-requires c).After-is_restarted-restarted)) ∙ c.in-Some.is in
    let same : c.in-Some.cause ≡ cause = ap (λ (o : Option Cause). unwrap_or o cause) (sym taken_is) in
    let right : RightAt (limit_of f.log) (moment f.log) (plain c.args.pid c.args.op reply) s c.args.op = (ap (Aborted (Clash cause)) c.is_restarted-restarted.ensures, none_else c.args.pid c.args.op reply) in
    subst (λ r. CanEndTransaction (record f { transactions = taken }) c.args.pid c.args.op r again c.args.flags c.args.age) (sym (c.aborted-told.ensures ∙ ap (λ x. Aborted (Clash x) again) same))
    (closes f c.requires.holds c.args.pid c.args.op reply s c.requires.stands.1 right refl refl
    taken _ again c.args.flags c.args.age (λ h. absurd cc) (settles s c.args.flags c.args.age again refl refl) c.take_cause.ensures.slots
    (ap (λ (x : Committed). x.state) c.take_cause.ensures.stable ∙ commits_nothing f c.requires.holds c.args.pid c.args.op reply s c.requires.stands.1 right refl refl refl))

pub returns : goal.returns
returns c = c.end_transaction.ensures.any (fields c.args.s.now) refl
