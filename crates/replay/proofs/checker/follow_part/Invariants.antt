use Rattle.std.proofs.Common.{◌++◌}
use Rattle.replay.proofs.checker.follow_part.Given as goal

abbrev pub ghost-follow_all : goal.ghost-follow_all
ghost-follow_all g a = g.before.entries ++ a.window.now.part.now

abbrev pub ghost-still_needed : goal.ghost-still_needed
ghost-still_needed g a = g.before.entries ++ a.window.now.part.now
