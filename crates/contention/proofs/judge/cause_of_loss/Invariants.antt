use Rattle.std.proofs.Common.{◌≡◌, drop}
use Rattle.contention.specs.Losses.{cause_of_loss}
use Rattle.contention.proofs.judge.cause_of_loss.Given as goal

abbrev pub invariant-loop-clash : goal.invariant-loop-clash
invariant-loop-clash l =
    cause_of_loss l.rank l.ranks l.clashes ≡ cause_of_loss l.rank l.ranks (drop l.clash-index l.clashes)
