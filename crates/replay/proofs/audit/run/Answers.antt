use Rattle.std.proofs.Common.{sym, ◌∙◌}
use Rattle.replay.proofs.Following.{gone_at, ran_at}
use Rattle.plain_kernel.proofs.Laws.{ok_then}
use Rattle.replay.proofs.Stopping.{match_some, stops_now}
use Rattle.replay.proofs.audit.run.Goals as goal

pub returns-then-is_living : goal.returns-then-is_living
returns-then-is_living g c = ok_then c.run_kept.result c.run_kept.ensures (λ wrong h. match_some wrong h
    (λ ran. ran_at g.es c.args.position _ _ _ _ c.requires.1.1.1.0 c.requires.1.1.1.1 (sym c.is_living.ensures ∙ c.if-is_living.true) ran)
    (λ position stops. stops_now g.es c.args.position c.args.entry.now _ _ position c.requires.1.1.1.0 c.requires.1.1.1.1 (sym c.is_living.ensures ∙ c.if-is_living.true) stops))

pub returns-else-is_living : goal.returns-else-is_living
returns-else-is_living g c = gone_at g.es c.args.position _ _ _ c.requires.1.1.1.0 c.requires.1.1.1.1 (sym c.is_living.ensures ∙ c.if-is_living.false) c.requires.0
