use Rattle.std.proofs.lemmas.Result.{err_from_is_err_and}
use Rattle.std.specs.Int.{w64}
use Rattle.entry_codec.specs.Reading.{items_at, number_at}
use Rattle.entry_codec.proofs.Loop.{goes_on, ends, is_done}
use Rattle.entry_codec.proofs.entries.counted_nums_of.Goals as goal

pub returns-in_err-num : goal.returns-in_err-num
returns-in_err-num c =
    let p = err_from_is_err_and c.from_residual.result c.from_residual.ensures.1 in
    rw (p.1, p.2) (ends (number_at w64) c.in_err-num.field-0.0 c.loop.nums c.args.count c.loop.counter c.loop.rest.now (items_at (number_at w64) c.args.count c.args.bytes.now) c.loop-test.true c.in_err-num.ensures c.loop.invariant)

pub loop-preserved : goal.loop-preserved
loop-preserved c =
    rw c.in_ok-push.ensures.ok (goes_on (number_at w64) c.loop.nums c.args.count c.loop.counter c.loop.rest.now c.in_ok-num.num c.in_ok-num.after.now (items_at (number_at w64) c.args.count c.args.bytes.now) c.loop-test.true c.in_ok-num.ensures c.loop.invariant)

pub returns : goal.returns
returns c = is_done (number_at w64) c.loop.nums c.args.count c.loop.counter c.loop.rest.now (items_at (number_at w64) c.args.count c.args.bytes.now) c.loop-test.false c.loop.invariant
