use Rattle.stream.proofs.Forgotten.{follows-settled, forgets_by}
use Rattle.stream.proofs.settling.settle.Goals as goal

pub returns-clause-forgets : goal.returns-clause-forgets
returns-clause-forgets g c = forgets_by _ _ c.forget.result c.forget.ensures.exactly c.forget.ensures.yes c.forget.ensures.no

pub returns-clause-followed : goal.returns-clause-followed
returns-clause-followed g c = λ h.
    follows-settled c.follow.new.follower _ _ c.history-history.ensures.kept.forgot
    (forgets_by _ _ c.forget.result c.forget.ensures.exactly c.forget.ensures.yes c.forget.ensures.no) (c.in-Ok.ensures.followed h)
