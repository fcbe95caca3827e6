use Rattle.std.proofs.Common.{subst}
use Rattle.mount_tables.specs.declared.numbers.Class.{Class}
use Rattle.mount_requests.specs.Seen.{seen}
use Rattle.mounted.specs.Served.{ServesAt, ToldBy}
use Rattle.mounted.proofs.serving.Serving.at_node.Goals as goal

pub returns-in-Tree-clause-served : goal.returns-in-Tree-clause-served
returns-in-Tree-clause-served g c = subst (λ (k : Class). ToldBy (ServesAt k (seen c.args.self.now.tables) (seen c.in_room.new.self.tables) c.args.caller c.args.operation c.args.self.now.hand.shown c.in_room.new.self.hand.shown) c.in_room.result) c.in-Tree.ensures c.in_room.ensures.served
