-- What a call through a pass does to the list of its port.
use Rattle.std.proofs.Common.{◌≡◌, ℕ, List, [], ◌∷◌, ◌++◌, Bool, true, false, map, refl, sym, ◌∙◌, ap, subst}
use Rattle.std.specs.Prelude.{if◌then◌else◌, MatchBool}
use Rattle.std.proofs.lemmas.List.{map-append}
use Rattle.history.specs.Log.{Log}
use Rattle.history_laws.proofs.Laws.{before_is_an_order}
use Rattle.ids.specs.declared.call.Op.{Op}
use Rattle.ids.specs.declared.entry.Entry.{Entry}
use Rattle.ids.specs.declared.reply.Reply.{Reply}
use Rattle.ids.specs.declared.reply.Reply.TheVariants as reply
use Rattle.machine.specs.Steps.{is_no_entry}
use Rattle.ports.specs.Ports.{done_by, replied, work_in}
use Rattle.turnstile.specs.Calls.{Called, Ends, Forked}
use Rattle.turnstile.specs.Histories.{Begins, own}
use Rattle.turnstile.specs.Passes.{PassView}
use Rattle.workers.specs.Port.{grown, is_refusal}

-- the replies that stand for no entry are those of refused operations
refusals : (r : Reply) → is_refusal r ≡ is_no_entry r
refusals (reply.Answer a) = refl
refusals (reply.Errno e) = refl
refusals reply.Begun = refl
refusals reply.Committed = refl
refusals (reply.GivenUp again) = refl
refusals (reply.Aborted why again) = refl
refusals (reply.Busy cause) = refl
refusals reply.InTransaction = refl
refusals reply.NotInTransaction = refl
refusals reply.HistoryFull = refl
refusals reply.NoMemory = refl
refusals reply.NoProcess = refl

by_refusal : (p q : PassView) (op : Op) (r : Reply) (b : Bool) → is_refusal r ≡ b
    → MatchBool b (own p.pid q.seen ≡ own p.pid p.seen) (Ends p op r q)
    → work_in q.seen p.pid ≡ (if b then done_by p else done_by p ++ (op, r) ∷ [])
by_refusal p q op r true e same = ap (map replied) same
by_refusal p q op r false e ends =
    let one : replied ends.entry ≡ (op, r) = ap (λ (o : Op). (o, ends.entry.reply)) ends.of_op ∙ ap (λ (x : Reply). (op, x)) ends.of_reply in
    ap (map replied) ends.own_grew
    ∙ map-append replied (own p.pid p.seen) (ends.entry ∷ [])
    ∙ ap (λ (x : Op × Reply). done_by p ++ x ∷ []) one

-- the list grows by a call's operation and reply
pub called_done : (p q : PassView) (op : Op) (r : Reply) → q.pid ≡ p.pid → Called p op r q → done_by q ≡ grown (done_by p) op r
called_done p q op r pid called =
    let after = subst (λ (b : Bool). MatchBool b (own p.pid q.seen ≡ own p.pid p.seen) (Ends p op r q)) (sym (refusals r)) called.own_after in
    ap (work_in q.seen) pid ∙ by_refusal p q op r (is_refusal r) refl after

-- the list of a child's port is empty
pub child_done : (p q made : PassView) (child : ℕ) → p.gate.start.entries ≡ [] → Forked p child q made → done_by made ≡ []
child_done p q made child fresh forked =
    ap done_by forked.pass
    ∙ ap (map replied) forked.own_before
    ∙ ap (λ (es : List Entry). map replied (own child (record p.gate.start { entries = es }))) fresh

-- a history that grows still begins with what it began with
pub begins_on : (a b c : Log) → Begins a b → Begins b c → Begins a c
begins_on a b c f g = record {
  priorities = g.priorities ∙ f.priorities;
  limit = g.limit ∙ f.limit;
  forgotten = g.forgotten ∙ f.forgotten;
  bounds = g.bounds ∙ f.bounds;
  entries = before_is_an_order.through a.entries b.entries c.entries f.entries g.entries;
}

pub begins_with : (h g : Log) → g ≡ h → Begins h g
begins_with h g is = subst (λ (l : Log). Begins h l) (sym is) (record {
  priorities = refl;
  limit = refl;
  forgotten = refl;
  bounds = refl;
  entries = before_is_an_order.itself h.entries;
})
