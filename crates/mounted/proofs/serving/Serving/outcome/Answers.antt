use Rattle.std.proofs.Common.{ap}
use Rattle.std.specs.Prelude.{Ok}
use Rattle.mount_requests.specs.Seen.{seen}
use Rattle.mounted.proofs.Outcomes.{begins, closes, ends, flushes, status, syncs}
use Rattle.mounted.proofs.serving.Serving.outcome.Goals as goal

pub returns-in-Init-clause-served : goal.returns-in-Init-clause-served
returns-in-Init-clause-served g c = begins (seen c.args.self.now.tables) c.args.caller c.args.operation c.args.self.now.hand.shown c.start.result c.in-Init.is c.start.ensures

pub returns-in-Destroy-clause-served : goal.returns-in-Destroy-clause-served
returns-in-Destroy-clause-served g c = ends (seen c.args.self.now.tables) c.args.caller c.args.operation c.args.self.now.hand.shown c.in-Destroy.is

pub returns-in-StatFs-clause-served : goal.returns-in-StatFs-clause-served
returns-in-StatFs-clause-served g c = status (seen c.args.self.now.tables) c.args.caller c.args.operation c.args.self.now.hand.shown c.status.result c.in-StatFs.is (c.space.result, ap Ok c.status.ensures)

pub returns-in-ReleaseDir-clause-served : goal.returns-in-ReleaseDir-clause-served
returns-in-ReleaseDir-clause-served g c = closes (seen c.args.self.now.tables) c.args.caller c.args.operation c.args.self.now.hand.shown c.in-ReleaseDir.is c.remove.ensures.each c.remove.ensures.next

pub returns-in-Flush-clause-served : goal.returns-in-Flush-clause-served
returns-in-Flush-clause-served g c = flushes (seen c.args.self.now.tables) c.args.caller c.args.operation c.args.self.now.hand.shown c.in-Flush.is

pub returns-in-Fsync-clause-served : goal.returns-in-Fsync-clause-served
returns-in-Fsync-clause-served g c = syncs (seen c.args.self.now.tables) c.args.caller c.args.operation c.args.self.now.hand.shown c.in-Fsync.is
