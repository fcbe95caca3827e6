use Rattle.std.proofs.Common.{ℕ, ◌≤◌, sym, subst}
use Rattle.std.specs.List.{AllByRecursion}
use Rattle.model.specs.Limits.{largest_file}
use Rattle.plain_kernel.specs.Edits.{EndsWithin}
use Rattle.replay.proofs.Ends.{edits_end}
use Rattle.replay.proofs.audit.step.Goals as goal

pub step_by-right-requires-clause-within : goal.step_by-right-requires-clause-within
step_by-right-requires-clause-within c = subst (AllByRecursion EndsWithin) (sym c.in_ok-plan.ensures.edits)
    (edits_end c.args.kernel.now c.args.pid (subst (λ (n : ℕ). n ≤ largest_file) c.largest_file-largest.ensures.value c.largest_file-largest.ensures.bound) c.args.call.now)

pub returns : goal.returns
returns c = c.step_by-right.ensures c.args.call.now c.in_ok-plan.ensures
