use Rattle.std.proofs.Common.{vec_len}
use Rattle.mount_tables.proofs.processes.next_fit.Given as goal

abbrev pub decreases-loop-pid : goal.decreases-loop-pid
decreases-loop-pid l = vec_len l.hints.pids
