use Rattle.std.proofs.lemmas.Result.{err_from_is_err_and}
use Rattle.entry_codec.specs.Reading.{items_at, text_at}
use Rattle.entry_codec.proofs.Loop.{goes_on, ends, is_done}
use Rattle.entry_codec.proofs.answers.counted_names_of.Goals as goal

pub returns-in_err-name : goal.returns-in_err-name
returns-in_err-name c =
    let p = err_from_is_err_and c.from_residual.result c.from_residual.ensures.1 in
    rw (p.1, p.2) (ends text_at c.in_err-name.field-0.0 c.loop.names.items c.args.count c.loop.counter c.loop.rest.now (items_at text_at c.args.count c.args.bytes.now) c.loop-test.true c.in_err-name.ensures c.loop.invariant)

pub loop-preserved : goal.loop-preserved
loop-preserved c =
    rw c.in_ok-push.ensures.items (goes_on text_at c.loop.names.items c.args.count c.loop.counter c.loop.rest.now c.in_ok-name.name c.in_ok-name.after.now (items_at text_at c.args.count c.args.bytes.now) c.loop-test.true c.in_ok-name.ensures c.loop.invariant)

pub returns : goal.returns
returns c = is_done text_at c.loop.names.items c.args.count c.loop.counter c.loop.rest.now (items_at text_at c.args.count c.args.bytes.now) c.loop-test.false c.loop.invariant
