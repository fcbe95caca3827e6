use Rattle.std.proofs.Common.{◌≡◌, ◌≤◌, ◌<◌, ◌+◌, ◌*◌, ◌∙◌, ℕ, length, sym, ap, subst, arith, rules}
use Rattle.std.proofs.lemmas.List.{get_or_read}
use Rattle.model.specs.FiniteMap.{empty, get, values}
use Rattle.model.specs.State.{Kernel}
use Rattle.model.specs.Changes.{holders, process_of}
use Rattle.freeing_laws.specs.Counts.{times}
use Rattle.notes.specs.Openings.{AreOnce}
use Rattle.notes.specs.Patches.{kept_at, reslotted}
use Rattle.notes.proofs.Laws.{Entries, key_at}
use Rattle.shadow.proofs.viewing.SlotTurnover.{Turned, open_on, turned_all, turned_nothing, turned_on}
use Rattle.shadow.proofs.counting.turnover.Goals as goal

pub loop-i-init : goal.loop-i-init
loop-i-init c = record {
  turned = turned_nothing c.args.stable.now.state c.args.description c.args.slots.now;
  few = omega arith;
  gone = omega arith;
}

pub loop-i-preserved : goal.loop-i-preserved
loop-i-preserved c =
    let k : Kernel = c.args.stable.now.state in
    let d : ℕ = c.args.description in
    let es : Entries = c.args.slots.now in
    let i : ℕ = c.loop-i.i in
    let here : i < length c.slots.inside.each.items = search rules in
    let low : i < length es = subst (λ (es : Entries). i < length es) c.slots.view_is here in
    let once : AreOnce es = subst (λ (es : Entries). AreOnce es) c.slots.view_is c.slots.invariant.0 in
    let key : c.index.result.now.0 ≡ key_at es i = ap (λ e. e.0) (get_or_read c.slots.inside.each.items i c.index.result.now here c.index.ensures (0, empty)) ∙ ap (λ (es : Entries). key_at es i) c.slots.view_is in
    let was : c.count.result ≡ open_on d (get k.processes (key_at es i)) = c.count.ensures ∙ ap (λ t. times d (values t)) (c.table-stored.ensures ∙ ap (λ n. (process_of k n).table) key) in
    let is : c.count_over.result ≡ open_on d (reslotted (kept_at es (key_at es i)) (get k.processes (key_at es i))) =
    c.count_over.ensures (get k.processes c.index.result.now.0) (sym c.table-stored.ensures)
    ∙ ap (λ n. open_on d (reslotted (kept_at es n) (get k.processes n))) key in
    let added : c.loop-i.added ≤ i * 18446744073709551616 = c.loop-i.invariant.few in
    let taken : c.loop-i.taken ≤ i * 18446744073709551616 = c.loop-i.invariant.gone in
    let one : c.count_over.result < 18446744073709551616 = c.count_over.type_inv in
    let former : c.count.result < 18446744073709551616 = c.count.type_inv in
    record {
      turned = subst (λ n. Turned k d (i + 1) es n (c.loop-i.taken + c.count.result)) (ap (λ n. c.loop-i.added + n) (sym is))
          (subst (λ n. Turned k d (i + 1) es (c.loop-i.added + open_on d (reslotted (kept_at es (key_at es i)) (get k.processes (key_at es i)))) n) (ap (λ n. c.loop-i.taken + n) (sym was))
          (turned_on k d i es c.loop-i.added c.loop-i.taken once low c.loop-i.invariant.turned));
      few = omega (arith, added, one);
      gone = omega (arith, taken, former);
    }

pub returns : goal.returns
returns c = λ k after same slots.
    let below : Kernel = c.args.stable.now.state in
    let end : length c.slots.inside.each.items ≤ c.loop-i.i = search rules in
    let high : length c.args.slots.now ≤ c.loop-i.i = subst (λ (es : Entries). length es ≤ c.loop-i.i) c.slots.view_is end in
    turned_all below after c.args.description c.loop-i.i c.args.slots.now c.loop-i.added c.loop-i.taken high c.loop-i.invariant.turned
    (λ pid. slots pid ∙ ap (λ (k : Kernel). reslotted (kept_at c.args.slots.now pid) (get k.processes pid)) same)
    ∙ ap (λ (k : Kernel). holders k c.args.description + c.loop-i.added) (sym same)
