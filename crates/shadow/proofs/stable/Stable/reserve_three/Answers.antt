use Rattle.std.proofs.Common.{false}
use Rattle.shadow.proofs.claims.NewNumbers.{err_added, err_more, more_added, none_added}
use Rattle.notes.proofs.Laws.{on_err}
use Rattle.shadow.proofs.stable.Stable.reserve_three.Goals as goal

pub returns-in_err-reserve-clause-err : goal.returns-in_err-reserve-clause-err
returns-in_err-reserve-clause-err c =
    on_err c.from_residual.result (none_added c.args.self.now c.reserve.new.self c.args.chosen.now c.reserve.new.chosen c.in_err-reserve.ensures.err c.in_err-reserve.ensures.same)

pub returns-in_err-reserve-2-clause-err : goal.returns-in_err-reserve-2-clause-err
returns-in_err-reserve-2-clause-err c =
    on_err c.from_residual-in_err-reserve-2.result
    (more_added false c.args.self.now c.reserve.new.self c.reserve-2.new.self c.args.chosen.now c.reserve.new.chosen c.reserve-2.new.chosen c.in_ok-reserve.ensures.ok
    (none_added c.reserve.new.self c.reserve-2.new.self c.reserve.new.chosen c.reserve-2.new.chosen c.in_err-reserve-2.ensures.err c.in_err-reserve-2.ensures.same))

pub returns-clause-err : goal.returns-clause-err
returns-clause-err c =
    err_more false c.reserve-3.result c.args.self.now c.reserve.new.self c.reserve-3.new.self c.args.chosen.now c.reserve.new.chosen c.reserve-3.new.chosen c.in_ok-reserve.ensures.ok
    (err_more false c.reserve-3.result c.reserve.new.self c.reserve-2.new.self c.reserve-3.new.self c.reserve.new.chosen c.reserve-2.new.chosen c.reserve-3.new.chosen c.in_ok-reserve-2.ensures.ok
    (err_added c.reserve-3.result c.reserve-2.new.self c.reserve-3.new.self c.reserve-2.new.chosen c.reserve-3.new.chosen c.reserve-3.ensures.err c.reserve-3.ensures.same))
