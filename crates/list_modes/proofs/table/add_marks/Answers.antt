use Rattle.std.proofs.Common.{Some, arith}
use Rattle.list_modes.proofs.Tallies.{on_err, held_updated, room_from, below_pids, none_counted, recounted_from}
use Rattle.list_modes.proofs.table.add_marks.Goals as goal

pub returns-in_err-make_place-clause-room : goal.returns-in_err-make_place-clause-room
returns-in_err-make_place-clause-room c = on_err c.from_residual.result (none_counted c.args.marks.now.entries c.args.counts.now c.args.pid c.args.dir (below_pids c.args.pid (omega arith)) c.requires c.in_err-make_place.ensures.err)

pub recount-requires-clause-room : goal.recount-requires-clause-room
recount-requires-clause-room c = room_from c.args.marks.now.entries c.args.counts.now c.make_place.new.counts c.args.pid c.args.dir c.held_at-before.result (below_pids c.args.pid (omega arith)) c.requires c.in_ok-make_place.ensures.same c.held_at-before.ensures

pub returns-in-Ok-clause-ok : goal.returns-in-Ok-clause-ok
returns-in-Ok-clause-ok c = held_updated c.args.marks.now c.insert.new.self c.args.pid c.args.dir (Some c.args.after) c.in-Ok.ensures.updates

pub returns-in-Ok-clause-counted : goal.returns-in-Ok-clause-counted
returns-in-Ok-clause-counted c = recounted_from c.args.marks.now.entries c.insert.new.self.entries c.args.pid c.args.dir c.held_at-before.result c.args.after c.args.counts.now c.make_place.new.counts c.recount.new.counts (below_pids c.args.pid (omega arith)) (held_updated c.args.marks.now c.insert.new.self c.args.pid c.args.dir (Some c.args.after) c.in-Ok.ensures.updates) c.requires c.in_ok-make_place.ensures.same c.held_at-before.ensures c.recount.ensures
