use Rattle.std.proofs.Common.{List, ℕ, drop, get_or, option_copied, refl, sym, ap, subst}
use Rattle.std.proofs.lemmas.List.{take_all}
use Rattle.replay.specs.Ran.{Ran}
use Rattle.replay.specs.Transactions.{call_first, calls_at_positions}
use Rattle.replay.specs.Windows.{Finds}
use Rattle.replay.proofs.Following.{no_call_here, ran_more}
use Rattle.replay.proofs.Running.{ran_none, ran_nothing}
use Rattle.plain_kernel.proofs.Laws.{all_at}
use Rattle.replay.proofs.Stopping.{not_ran_of, ran_of, ran_or_not, stops_in}
use Rattle.replay.proofs.audit.run_all.Goals as goal
use Rattle.replay.proofs.audit.run_all.Goals.{in-Some+in_ok-right+else-not-right, in_default}

pub loop-position-init : goal.loop-position-init
loop-position-init g c = ran_none c.args.kernel.now c.args.pid c.requires.0

pub loop-position-preserved : goal.loop-position-preserved
loop-position-preserved g c =
    let position : ℕ = get_or c.args.positions.now c.loop-position.position-index 0 in
    let found = c.entry.ensures g.es c.requires.1.0 (all_at _ c.args.positions.now c.loop-position.position-index 0 c.requires.1.1 c.loop-position-test.true) in
    let ran : Ran c.loop-position.kernel c.args.pid (call_first (drop position g.es)) c.match-entry.kernel = elim c.match-entry.branch [
      | in-Some+in_ok-right+else-not-right w ↦
          let here = subst (Finds g.es position) (ap option_copied w.in-Some.is) found in
          subst (Ran c.loop-position.kernel c.args.pid (call_first (drop position g.es))) (sym w.kernel-is)
          (ran_of w.in_ok-right.right _ _ w.if-not-right.false (ran_or_not w.in_ok-right.right c.loop-position.kernel w.run_entry.new.kernel c.args.pid _ _ (sym (ap call_first here.here)) w.in_ok-right.ensures))
      | in_default w ↦
          subst (Ran c.loop-position.kernel c.args.pid (call_first (drop position g.es))) (sym w.kernel-is)
          (ran_nothing c.loop-position.kernel c.args.pid _ (no_call_here g.es position (subst (Finds g.es position) (ap option_copied w.in_default.is) found)) c.loop-position.invariant.tidied)
    ] in
    ran_more g.es c.args.positions.now c.loop-position.position-index position 0 c.args.kernel.now c.loop-position.kernel c.match-entry.kernel c.args.pid
    c.loop-position-test.true refl c.loop-position.invariant ran

pub run_entry-requires : goal.run_entry-requires
run_entry-requires g c = c.loop-position.invariant.tidied

pub returns-then-not-right : goal.returns-then-not-right
returns-then-not-right g c =
    let position : ℕ = get_or c.args.positions.now c.loop-position.position-index 0 in
    let found = c.entry.ensures g.es c.requires.1.0 (all_at _ c.args.positions.now c.loop-position.position-index 0 c.requires.1.1 c.loop-position-test.true) in
    let here = subst (Finds g.es position) (ap option_copied c.in-Some.is) found in
    stops_in c.args.kernel.now c.loop-position.kernel c.args.pid g.es c.args.positions.now c.loop-position.position-index position 0
    c.loop-position-test.true refl c.loop-position.invariant
    (not_ran_of c.in_ok-right.right _ _ c.if-not-right.true (ran_or_not c.in_ok-right.right c.loop-position.kernel c.run_entry.new.kernel c.args.pid _ _ (sym (ap call_first here.here)) c.in_ok-right.ensures))

pub returns : goal.returns
returns g c = subst (λ (ps : List ℕ). Ran c.args.kernel.now c.args.pid (calls_at_positions g.es ps) c.loop-position.kernel) (take_all _ _ c.loop-position-test.false) c.loop-position.invariant
