use Rattle.replay.proofs.checker.still_needed.Given as goal

abbrev pub ghost-keep_each : goal.ghost-keep_each
ghost-keep_each g a = g.es
