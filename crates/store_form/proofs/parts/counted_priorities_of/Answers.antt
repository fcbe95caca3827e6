use Rattle.std.proofs.lemmas.Result.{err_from_is_err_and}
use Rattle.entry_codec.specs.Reading.{items_at}
use Rattle.entry_codec.proofs.Loop.{ends, is_done}
use Rattle.store_form.specs.ReadingSetups.{priority_at}
use Rattle.store_form.proofs.Reading.{more_are_read, none_is_read}
use Rattle.store_form.proofs.parts.counted_priorities_of.Goals as goal

pub returns-in_err-after : goal.returns-in_err-after
returns-in_err-after c =
    let p = err_from_is_err_and c.from_residual.result c.from_residual.ensures.1 in
    rw (p.1, p.2) (ends priority_at c.in_err-after.field-0.0 c.loop.priorities.items c.args.count c.loop.counter c.loop.rest.now (items_at priority_at c.args.count c.args.bytes.now) c.loop-test.true (none_is_read c.in_err-after.field-0.0 c.loop.priorities.items (priority_at c.loop.rest.now) c.in_err-after.ensures) c.loop.invariant)

pub loop-preserved : goal.loop-preserved
loop-preserved c = more_are_read c.loop.priorities.items c.next_priority.new.priorities.items c.args.count c.loop.counter c.loop.rest.now c.in_ok-after.after.now (items_at priority_at c.args.count c.args.bytes.now) c.loop-test.true c.in_ok-after.ensures c.loop.invariant

pub returns : goal.returns
returns c = is_done priority_at c.loop.priorities.items c.args.count c.loop.counter c.loop.rest.now (items_at priority_at c.args.count c.args.bytes.now) c.loop-test.false c.loop.invariant
