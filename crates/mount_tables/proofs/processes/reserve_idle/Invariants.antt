use Rattle.std.proofs.Common.{◌≡◌, ◌-◌, vec_len}
use Rattle.mount_tables.proofs.processes.reserve_idle.Given as goal

abbrev pub decreases-loop-idle : goal.decreases-loop-idle
decreases-loop-idle l = 8 - vec_len l.idle

abbrev pub invariant-loop-level : goal.invariant-loop-level
invariant-loop-level l = l.level-end ≡ vec_len l.idle
