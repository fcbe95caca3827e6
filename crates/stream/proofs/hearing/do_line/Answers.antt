use Rattle.stream.proofs.Forgotten.{done_by, follows_same, follows_took}
use Rattle.stream.proofs.hearing.do_line.Goals as goal

pub returns-in-Ok-clause-done : goal.returns-in-Ok-clause-done
returns-in-Ok-clause-done g c = done_by _ _ _ _ c.requires c.do_step.ensures.kept c.in-Ok.ensures.ok

pub returns-in-Ok-clause-followed : goal.returns-in-Ok-clause-followed
returns-in-Ok-clause-followed g c = λ follower h.
    follows_took follower (g.K.Machine.shown c.args.kernel.now) (g.K.Machine.shown c.do_step.new.kernel) _ _ c.in-Ok.ensures.ok h

pub returns-in-Err-clause-followed : goal.returns-in-Err-clause-followed
returns-in-Err-clause-followed g c = λ follower h.
    follows_same follower (g.K.Machine.shown c.args.kernel.now) (g.K.Machine.shown c.do_step.new.kernel) c.in-Err.ensures.unchanged h
