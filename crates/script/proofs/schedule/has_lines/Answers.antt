use Rattle.std.proofs.Common.{rules, arith, ◌≡◌, ◌<◌, ◌+◌, ◌∷◌, ℕ, List, length, get_or, sym, ◌∙◌, ap, subst}
use Rattle.std.proofs.lemmas.List.{drop_all, get_or_read}
use Rattle.std.proofs.Math.ListN.{length-set}
use Rattle.script.specs.Schedules.{first_without, lines_for, times, with_lines_left}
use Rattle.script.proofs.Counts.{goes_on_at, one_less, stops_at}
use Rattle.script.specs.declared.limits.TheConstants.{PROCESS_NUMBERS_END}
use Rattle.script.proofs.schedule.has_lines.Goals as goal

pub loop-pid-preserved : goal.loop-pid-preserved
loop-pid-preserved c =
    let pid = c.pid.inside.0 in
    let is : pid ≡ get_or c.args.pids.now c.loop-pid.pid-index pid = search rules in
    let zero_is = get_or_read c.args.pids.now _ _ c.loop-pid-test.true is 0 in
    let small : pid < PROCESS_NUMBERS_END = subst (λ (q : ℕ). q < PROCESS_NUMBERS_END) (sym zero_is) (c.requires c.loop-pid.pid-index c.loop-pid-test.true) in
    let before = c.loop-pid.invariant.0 in
    let len = c.loop-pid.invariant.1 in
    let room : pid < length c.loop-pid.counts.items = omega (arith, len, small) in
    let value = get_or_read c.loop-pid.counts.items _ _ room c.index_mut.ensures.value 0 in
    let tested = get_or_read c.loop-pid.counts.items _ _ room c.index.ensures 0 in
    let some : 0 < c.index_mut.result.now = omega (arith, value, tested, c.if-index-eq0.false) in
    let kept = c.loop-pid.invariant.3 in
    let here : c.index_mut.result.now + times pid before ≡ lines_for pid c.args.lines.now = ap (λ (n : ℕ). n + times pid before) value ∙ kept pid small in (
      pid ∷ before,
      length-set c.loop-pid.counts.items pid _ ∙ len,
      c.loop-pid.invariant.2 ∙ goes_on_at c.args.lines.now c.args.pids.now before c.loop-pid.pid-index pid c.index_mut.result.now c.loop-pid-test.true is some here,
      λ p below. one_less pid p c.index_mut.result.now (lines_for p c.args.lines.now) before c.loop-pid.counts.items room value some (kept p below),
    )

pub returns-then-index-eq0 : goal.returns-then-index-eq0
returns-then-index-eq0 c =
    let pid = c.pid.inside.0 in
    let is : pid ≡ get_or c.args.pids.now c.loop-pid.pid-index pid = search rules in
    let zero_is = get_or_read c.args.pids.now _ _ c.loop-pid-test.true is 0 in
    let small : pid < PROCESS_NUMBERS_END = subst (λ (q : ℕ). q < PROCESS_NUMBERS_END) (sym zero_is) (c.requires c.loop-pid.pid-index c.loop-pid-test.true) in
    let before = c.loop-pid.invariant.0 in
    let room : pid < length c.loop-pid.counts.items = omega (arith, c.loop-pid.invariant.1, small) in
    let tested = get_or_read c.loop-pid.counts.items _ _ room c.index.ensures 0 in
    let here : c.index.result.now + times pid before ≡ lines_for pid c.args.lines.now = ap (λ (n : ℕ). n + times pid before) tested ∙ c.loop-pid.invariant.3 pid small in
    let found = c.loop-pid.invariant.2 ∙ stops_at c.args.lines.now c.args.pids.now before c.loop-pid.pid-index pid c.index.result.now c.loop-pid-test.true is c.if-index-eq0.true here in
    record { ok = tt; fault = λ _. ap (with_lines_left c.args.pids.now) found }

pub returns-clause-ok : goal.returns-clause-ok
returns-clause-ok c =
    let before = c.loop-pid.invariant.0 in
    c.loop-pid.invariant.2 ∙ ap (λ (ps : List ℕ). first_without c.args.lines.now before ps) (drop_all c.loop-pid.pid-index c.args.pids.now c.loop-pid-test.false)
