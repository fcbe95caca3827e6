use Rattle.replay.proofs.checker.Reached.follow.Given as goal

abbrev pub ghost-follow_part : goal.ghost-follow_part
ghost-follow_part g a = g.before
