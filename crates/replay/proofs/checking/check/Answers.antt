use Rattle.std.proofs.Common.{List, ap₂, subst}
use Rattle.model.specs.Entries.{Entry}
use Rattle.model.specs.Moments.{Setup}
use Rattle.model.specs.Passing.{PassesForSome}
use Rattle.plain_kernel.proofs.Laws.{if_ok}
use Rattle.replay.proofs.checking.check.Goals as goal

pub returns-in-Ok-clause-ok : goal.returns-in-Ok-clause-ok
returns-in-Ok-clause-ok c = if_ok c.check_from.result c.check_from.ensures.ok (λ h. subst (λ (es : List Entry). PassesForSome (record { priorities = c.args.history.now.priorities; bounds = c.args.history.now.bounds }) es) c.entries-entries.ensures.kept
    (subst (λ (s : Setup). PassesForSome s c.entries-entries.result.now) (ap₂ (λ priorities bounds. record { priorities = priorities; bounds = bounds }) c.priorities.ensures c.bounds.ensures.value) h))
