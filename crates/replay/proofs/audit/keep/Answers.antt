use Rattle.std.proofs.Common.{sym, ap, ◌∙◌}
use Rattle.std.specs.Prelude.{if◌then◌else◌, ◌==◌}
use Rattle.model.specs.FiniteMap.{get}
use Rattle.plain_kernel.proofs.Laws.{at_none, at_set, if_ok}
use Rattle.replay.proofs.audit.keep.Goals as goal

pub returns-in-Some : goal.returns-in-Some
returns-in-Some c = if_ok c.set.result c.set.ensures (λ h q. at_set _ _ _ _ _ c.key_of.ensures h q
    ∙ ap (λ o. if q == c.args.pid then o else get c.args.transactions.now q) (sym c.in-Some.is))

pub returns-in-None : goal.returns-in-None
returns-in-None c = λ q. at_none _ _ c.requires q ∙ ap (λ o. if q == c.args.pid then o else get c.args.transactions.now q) (sym c.in-None.is)
