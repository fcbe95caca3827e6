use Rattle.std.proofs.Common.{sym, ◌∙◌, None, refl, arith}
use Rattle.list_modes.specs.Holding.{nothing}
use Rattle.list_modes.proofs.Tallies.{held_updated, room_from, some_from, below_pids, recounted_from, counted_same, uncounted_from}
use Rattle.list_modes.proofs.table.take_marks.Goals as goal

pub recount-requires-clause-place : goal.recount-requires-clause-place
recount-requires-clause-place c = some_from c.args.marks.now.entries c.args.counts.now c.args.pid c.args.dir c.held_at-before.result (below_pids c.args.pid (omega arith)) c.requires c.held_at-before.ensures (sym c.is_some.ensures ∙ c.if-is_some.true)

pub recount-requires-clause-room : goal.recount-requires-clause-room
recount-requires-clause-room c = room_from c.args.marks.now.entries c.args.counts.now c.args.counts.now c.args.pid c.args.dir c.held_at-before.result (below_pids c.args.pid (omega arith)) c.requires (λ d. refl) c.held_at-before.ensures

pub returns-then-is_some-clause-sets : goal.returns-then-is_some-clause-sets
returns-then-is_some-clause-sets c = held_updated c.args.marks.now c.remove.new.self c.args.pid c.args.dir None c.remove.ensures.updates

pub returns-then-is_some-clause-counted : goal.returns-then-is_some-clause-counted
returns-then-is_some-clause-counted c = counted_same c.remove.new.self.entries c.remove.new.self.entries c.recount.new.counts c.forget_if_empty.new.counts (recounted_from c.args.marks.now.entries c.remove.new.self.entries c.args.pid c.args.dir c.held_at-before.result nothing c.args.counts.now c.args.counts.now c.recount.new.counts (below_pids c.args.pid (omega arith)) (held_updated c.args.marks.now c.remove.new.self c.args.pid c.args.dir None c.remove.ensures.updates) c.requires (λ d. refl) c.held_at-before.ensures c.recount.ensures) refl c.forget_if_empty.ensures

pub returns-else-is_some-clause-sets : goal.returns-else-is_some-clause-sets
returns-else-is_some-clause-sets c = held_updated c.args.marks.now c.remove.new.self c.args.pid c.args.dir None c.remove.ensures.updates

pub returns-else-is_some-clause-counted : goal.returns-else-is_some-clause-counted
returns-else-is_some-clause-counted c = uncounted_from c.args.marks.now.entries c.remove.new.self.entries c.args.pid c.args.dir c.held_at-before.result c.args.counts.now (below_pids c.args.pid (omega arith)) (held_updated c.args.marks.now c.remove.new.self c.args.pid c.args.dir None c.remove.ensures.updates) c.requires c.held_at-before.ensures (sym c.is_some.ensures ∙ c.if-is_some.false)
