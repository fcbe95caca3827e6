use Rattle.replay.proofs.audit.run_kept.Given as goal

abbrev pub ghost-run_all : goal.ghost-run_all
ghost-run_all g a = g.es
