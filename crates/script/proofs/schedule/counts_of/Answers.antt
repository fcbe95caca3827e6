use Rattle.std.proofs.Common.{rules, arith, ◌≡◌, ◌<◌, ◌+◌, ℕ, List, length, get_or, set, sym, ◌∙◌, ap, replicate}
use Rattle.std.proofs.lemmas.List.{get_or-replicate, get_or_read, take_all}
use Rattle.std.proofs.Math.ListN.{length-set}
use Rattle.script.proofs.Counts.{lines_for-le, not_counted_here, one_more_here}
use Rattle.script.specs.Schedules.{lines_for}
use Rattle.script.specs.declared.read.Line.{Line}
use Rattle.script.specs.declared.limits.TheConstants.{PROCESS_NUMBERS_END}
use Rattle.script.proofs.schedule.counts_of.Goals as goal
use Rattle.script.proofs.schedule.counts_of.Goals.{then-place-lt-PROCESS_NUMBERS_END, else-place-lt-PROCESS_NUMBERS_END}

pub loop-line-init : goal.loop-line-init
loop-line-init c =
    let items : c.in_ok-counts.counts.items ≡ replicate PROCESS_NUMBERS_END 0 = c.in_ok-counts.ensures.items_if_clones_equal (search rules) in
    (search rules, λ p below. ap (λ (xs : List ℕ). get_or xs p 0) items ∙ get_or-replicate PROCESS_NUMBERS_END p 0 0 below)

pub overflow_add-index_mut : goal.overflow_add-index_mut
overflow_add-index_mut c =
    let place = c.line.inside.0.0.0 in
    let room : place < length c.loop-line.counts.items = omega (arith, c.loop-line.invariant.0) in
    let here = c.loop-line.invariant.1 place c.if-place-lt-PROCESS_NUMBERS_END.true in
    let value = get_or_read c.loop-line.counts.items _ _ room c.index_mut.ensures.value 0 in
    omega (arith, lines_for-le c.args.lines.now c.loop-line.line-index place, here, value)

pub loop-line-preserved : goal.loop-line-preserved
loop-line-preserved c =
    let place = c.line.inside.0.0.0 in
    let at : place ≡ c.line-item.result.pid = ap (λ (l : Line). l.pid) c.line.view_is in
    elim c.if-place-lt-PROCESS_NUMBERS_END.branch [
      | then-place-lt-PROCESS_NUMBERS_END w ↦ (
          let room : place < length c.loop-line.counts.items = omega (arith, c.loop-line.invariant.0, w.if-place-lt-PROCESS_NUMBERS_END.true) in
          let value = get_or_read c.loop-line.counts.items _ _ room w.index_mut.ensures.value 0 in
          let items : c.if-place-lt-PROCESS_NUMBERS_END.counts.items ≡ set c.loop-line.counts.items place (w.index_mut.result.now + 1) = search rules in (
            ap length items ∙ length-set c.loop-line.counts.items place _ ∙ c.loop-line.invariant.0,
            λ p below. ap (λ (xs : List ℕ). get_or xs p 0) items
                ∙ one_more_here c.args.lines.now c.loop-line.line-index c.line-item.result place p w.index_mut.result.now c.loop-line.counts.items c.loop-line-test.true c.line-item.is at room value (c.loop-line.invariant.1 p below),
          ))
      | else-place-lt-PROCESS_NUMBERS_END w ↦ (
          let items : c.if-place-lt-PROCESS_NUMBERS_END.counts.items ≡ c.loop-line.counts.items = search rules in (
            ap length items ∙ c.loop-line.invariant.0,
            λ p below. ap (λ (xs : List ℕ). get_or xs p 0) items ∙ c.loop-line.invariant.1 p below
                ∙ sym (not_counted_here c.args.lines.now c.loop-line.line-index c.line-item.result place p c.loop-line-test.true c.line-item.is at (omega (arith, w.if-place-lt-PROCESS_NUMBERS_END.false))),
          ))
    ]

pub returns-clause-counts : goal.returns-clause-counts
returns-clause-counts c = λ p below. c.loop-line.invariant.1 p below ∙ ap (λ (ls : List Line). lines_for p ls) (take_all c.loop-line.line-index c.args.lines.now c.loop-line-test.false)
