use Rattle.replay.specs.Added.{so_far}
use Rattle.replay.proofs.checker.Checker.add.Given as goal

abbrev pub ghost-follow_and_note : goal.ghost-follow_and_note
ghost-follow_and_note a = so_far a.root a.added
