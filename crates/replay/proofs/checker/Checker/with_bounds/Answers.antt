use Rattle.std.proofs.Common.{[], refl, sym, ap₂, subst}
use Rattle.replay.specs.Checked.{HasChecked}
use Rattle.replay.specs.SoFar.{Checked}
use Rattle.model.specs.Moments.{Setup}
use Rattle.replay.specs.declared.checker.Reached.{Reached}
use Rattle.replay.proofs.Following.{follows_none}
use Rattle.replay.proofs.Seen.{nothing_held, nothing_kept}
use Rattle.replay.proofs.checker.Checker.with_bounds.Goals as goal

pub returns : goal.returns
returns c = ap₂ (λ setup entries. record { root = c.args.root; setup = setup; entries = entries }) c.of.ensures.setup c.of.ensures.entries

pub invariant_of-result : goal.invariant_of-result
invariant_of-result c =
    let reached : Reached = record { count = 0; audit = c.in_ok-audit.audit; kept = c.new-2.result } in
    let setup : Setup = record { priorities = c.args.priorities.now; bounds = c.args.bounds } in
    let none : Checked = record { root = c.args.root; setup = setup; entries = [] } in
    subst (HasChecked reached) (sym (returns c)) (record {
      count = refl;
      follows = follows_none c.args.root setup [] _ _ c.in_ok-audit.ensures.kernel c.in_ok-audit.ensures.transactions;
      held = nothing_held [] c.new-2.result c.new-2.ensures;
      there = λ q. rw (nothing_kept c.in_ok-audit.audit.transactions c.in_ok-audit.ensures.transactions q) tt;
    })
