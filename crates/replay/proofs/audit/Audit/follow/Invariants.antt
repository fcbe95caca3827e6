use Rattle.replay.proofs.audit.Audit.follow.Given as goal

abbrev pub ghost-run : goal.ghost-run
ghost-run g a = g.es
