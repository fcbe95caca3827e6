use Rattle.std.proofs.Common.{rules, ◌≡◌, ◌<◌, ◌∷◌, ◌++◌, ◌∙◌, ℕ, List, [], get_or, drop, length, sym, ap, subst, arith, append-nil, set, refl, ◌+◌, Option, Some, None}
use Rattle.std.proofs.Math.ListN.{length-set}
use Rattle.std.proofs.lemmas.List.{drop_all, get_or_read}
use Rattle.ids.specs.declared.call.Op.{Op}
use Rattle.script.specs.Schedules.{times}
use Rattle.script.specs.Steps.{ops_for, steps_after, with_step}
use Rattle.script.proofs.Queues.{stepped, taken}
use Rattle.script.specs.declared.limits.TheConstants.{PROCESS_NUMBERS_END}
use Rattle.script.proofs.steps.take_all.Goals as goal
use Rattle.script.proofs.steps.take_all.Goals.{in-Some+in_ok-push, in_default}

pub loop-pid-init : goal.loop-pid-init
loop-pid-init c = (
  search rules,
  λ lines h. ([], ap (λ (xs : List (ℕ × Op)). xs ++ steps_after lines [] c.args.pids.now) (sym c.requires.none), h),
)

pub loop-pid-preserved : goal.loop-pid-preserved
loop-pid-preserved c =
    let pid = c.pid-item.result in
    let is : pid ≡ get_or c.args.pids.now c.loop-pid.pid-index pid = search rules in
    let zero_is = get_or_read c.args.pids.now _ _ c.loop-pid-test.true is 0 in
    let small : pid < PROCESS_NUMBERS_END = subst (λ (q : ℕ). q < PROCESS_NUMBERS_END) (sym zero_is) (c.requires.small c.loop-pid.pid-index c.loop-pid-test.true) in
    let queues = c.loop-pid.queues.items in
    let old = get_or queues pid [] in
    let room : pid < length queues = omega (arith, c.loop-pid.invariant.0, small) in
    let left : c.take.new.queues.items ≡ set queues pid (drop 1 old) = c.take.ensures.rest in
    let more : c.match-take.taken.items ≡ c.loop-pid.taken.items ++ with_step pid c.take.result [] = elim c.match-take.branch [
      | in-Some+in_ok-push w ↦ (
          let found : c.take.result ≡ Some w.in-Some.op = search rules in
          let grown : c.match-take.taken.items ≡ c.loop-pid.taken.items ++ (pid, w.in-Some.op) ∷ [] = search rules in
          grown ∙ ap (λ (o : Option Op). c.loop-pid.taken.items ++ with_step pid o []) (sym found))
      | in_default w ↦ (
          let found : c.take.result ≡ None = search rules in
          let same : c.match-take.taken.items ≡ c.loop-pid.taken.items = search rules in
          same ∙ sym (append-nil c.loop-pid.taken.items) ∙ ap (λ (o : Option Op). c.loop-pid.taken.items ++ with_step pid o []) (sym found))
    ] in (
      ap length left ∙ length-set queues pid (drop 1 old) ∙ c.loop-pid.invariant.0,
      λ lines h.
          let known = c.loop-pid.invariant.1 lines h in
          let before = known.0 in
          let here : old ≡ drop (times pid before) (ops_for pid lines) = known.2 pid small in (
            pid ∷ before,
            known.1 ∙ stepped lines c.args.pids.now before c.loop-pid.pid-index pid old c.take.result c.loop-pid.taken.items c.loop-pid-test.true is here c.take.ensures.taken
                ∙ ap (λ xs. xs ++ steps_after lines (pid ∷ before) (drop (c.loop-pid.pid-index + 1) c.args.pids.now)) (sym more),
            λ p below. ap (λ (xs : List (List Op)). get_or xs p []) left ∙ taken queues p pid before lines old room refl here (known.2 p below),
          ),
    )

pub returns : goal.returns
returns c = λ lines h.
    let known = c.loop-pid.invariant.1 lines h in
    sym (known.1 ∙ ap (λ (ps : List ℕ). c.loop-pid.taken.items ++ steps_after lines known.0 ps) (drop_all c.loop-pid.pid-index c.args.pids.now c.loop-pid-test.false) ∙ append-nil c.loop-pid.taken.items)
