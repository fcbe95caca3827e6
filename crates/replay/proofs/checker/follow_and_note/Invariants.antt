use Rattle.replay.proofs.checker.follow_and_note.Given as goal

abbrev pub ghost-follow : goal.ghost-follow
ghost-follow g a = g.before
