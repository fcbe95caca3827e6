use Rattle.entry_codec.specs.Reading.{items_at}
use Rattle.entry_codec.specs.ReadingEntries.{entry_at}
use Rattle.entry_codec.proofs.Loop.{goes_on, ends, is_done}
use Rattle.entry_codec.proofs.entries.counted_entries_of.Goals as goal

pub returns-in-Err : goal.returns-in-Err
returns-in-Err c = ends entry_at c.in-Err.e c.loop.entries.items c.args.count c.loop.counter c.loop.rest.now (items_at entry_at c.args.count c.args.bytes.now) c.loop-test.true c.in-Err.ensures c.loop.invariant

pub loop-preserved : goal.loop-preserved
loop-preserved c =
    rw c.in_ok-push-in-Ok.ensures.items (goes_on entry_at c.loop.entries.items c.args.count c.loop.counter c.loop.rest.now c.in-Ok.entry c.in-Ok.after.now (items_at entry_at c.args.count c.args.bytes.now) c.loop-test.true c.in-Ok.ensures c.loop.invariant)

pub returns : goal.returns
returns c = is_done entry_at c.loop.entries.items c.args.count c.loop.counter c.loop.rest.now (items_at entry_at c.args.count c.args.bytes.now) c.loop-test.false c.loop.invariant
