use Rattle.std.proofs.Common.{◌≡◌, true, rules}
use Rattle.mount_requests.specs.Seen.{seen}
use Rattle.mounted.specs.Room.{needs_room}
use Rattle.mounted.proofs.Room.{has_room, is_full, is_short}
use Rattle.mounted.proofs.serving.Serving.in_room.Goals as goal

pub returns-then-not-needs_room-clause-served : goal.returns-then-not-needs_room-clause-served
returns-then-not-needs_room-clause-served g c = has_room (seen c.args.self.now.tables) c.args.caller c.args.operation (seen c.in_tree.new.self.tables) c.in_tree.result c.in_tree.ensures.served

pub returns-then-is_full-clause-served : goal.returns-then-is_full-clause-served
returns-then-is_full-clause-served g c =
    let needs : needs_room c.args.operation ≡ true = search rules in
    is_full (seen c.args.self.now.tables) c.args.caller c.args.operation c.args.self.now.hand.shown needs

pub returns-then-is_short-clause-served : goal.returns-then-is_short-clause-served
returns-then-is_short-clause-served g c =
    let needs : needs_room c.args.operation ≡ true = search rules in
    is_short (seen c.args.self.now.tables) c.args.caller c.args.operation (seen c.in_tree-reply.new.self.tables) c.in_tree-reply.result needs (c.is_short.ensures c.if-is_short.true) c.in_tree-reply.ensures.served

pub returns-clause-served : goal.returns-clause-served
returns-clause-served g c = has_room (seen c.args.self.now.tables) c.args.caller c.args.operation (seen c.in_tree-reply.new.self.tables) c.in_tree-reply.result c.in_tree-reply.ensures.served
