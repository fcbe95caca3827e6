use Rattle.std.proofs.Common.{◌≡◌, ℕ, ◌<◌, ◌≤◌, List, [], length, sym, subst}
use Rattle.std.specs.Prelude.{IfOk}
use Rattle.ids.specs.declared.limits.TheConstants.{MAX_PROCESSES}
use Rattle.store_form.specs.ReadingSetups.{setup_of}
use Rattle.recovery.proofs.Coming.{begins_if}
use Rattle.recovery.proofs.starting.kernel_of.Goals as goal

pub returns-clause-comes : goal.returns-clause-comes
returns-clause-comes g c =
    begins_if g.M.Machine.shown (setup_of c.args.setup.now) c.args.entries c.with_limits.result
    (subst (λ (ps : List ℕ). IfOk c.with_limits.result (λ m. (g.M.Machine.shown m).log ≡ record { entries = []; priorities = ps; limit = c.args.entries; forgotten = []; bounds = c.args.setup.now.bounds })) c.as_slice.ensures.value c.with_limits.ensures.log)

pub with_limits-requires-clause-some : goal.with_limits-requires-clause-some
with_limits-requires-clause-some g c = subst (λ (ps : List ℕ). 0 < length ps) (sym c.as_slice.ensures.value) c.requires.is.priorities.some

pub with_limits-requires-clause-not_too_many : goal.with_limits-requires-clause-not_too_many
with_limits-requires-clause-not_too_many g c = subst (λ (ps : List ℕ). length ps ≤ MAX_PROCESSES) (sym c.as_slice.ensures.value) c.requires.is.priorities.not_too_many
