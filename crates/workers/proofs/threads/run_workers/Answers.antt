use denote.Param.Send.{sendable}
use Rattle.std.proofs.Crossing.{crosses}
use Rattle.workers.proofs.Shared.{script_shared}
use Rattle.workers.proofs.threads.run_workers.Goals as goal

pub run_all-requires-sync-L : goal.run_all-requires-sync-L
run_all-requires-sync-L g c κs within = search (script_shared, sendable, crosses) depth 40 fits 30000
