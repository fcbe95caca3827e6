use Rattle.replay.proofs.audit.run.Given as goal

abbrev pub ghost-run_kept : goal.ghost-run_kept
ghost-run_kept g a = g.es
