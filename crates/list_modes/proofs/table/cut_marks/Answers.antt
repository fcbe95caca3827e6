use Rattle.std.proofs.Common.{refl, Some, arith}
use Rattle.list_modes.proofs.Tallies.{held_updated, room_from, below_pids, some_part, recounted_from}
use Rattle.list_modes.proofs.table.cut_marks.Goals as goal

pub recount-requires-clause-place : goal.recount-requires-clause-place
recount-requires-clause-place c = some_part c.args.marks.now.entries c.args.counts.now c.args.pid c.args.dir c.args.after (below_pids c.args.pid (omega arith)) c.requires.counted c.requires.part c.requires.some

pub recount-requires-clause-room : goal.recount-requires-clause-room
recount-requires-clause-room c = room_from c.args.marks.now.entries c.args.counts.now c.args.counts.now c.args.pid c.args.dir c.held_at-before.result (below_pids c.args.pid (omega arith)) c.requires.counted (λ d. refl) c.held_at-before.ensures

pub returns-clause-sets : goal.returns-clause-sets
returns-clause-sets c = held_updated c.args.marks.now c.insert.new.self c.args.pid c.args.dir (Some c.args.after) c.in-Ok.ensures.updates

pub returns-clause-counted : goal.returns-clause-counted
returns-clause-counted c = recounted_from c.args.marks.now.entries c.insert.new.self.entries c.args.pid c.args.dir c.held_at-before.result c.args.after c.args.counts.now c.args.counts.now c.recount.new.counts (below_pids c.args.pid (omega arith)) (held_updated c.args.marks.now c.insert.new.self c.args.pid c.args.dir (Some c.args.after) c.in-Ok.ensures.updates) c.requires.counted (λ d. refl) c.held_at-before.ensures c.recount.ensures
