use Rattle.replay.proofs.audit.passes.Given as goal

abbrev pub ghost-follow_all : goal.ghost-follow_all
ghost-follow_all a = a.window.now.part.now
