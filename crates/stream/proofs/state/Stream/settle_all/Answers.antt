use Rattle.std.proofs.Common.{refl}
use Rattle.stream.proofs.Fields.{not_settled_all, settled_all, settled_none}
use Rattle.stream.proofs.state.Stream.settle_all.Goals as goal

pub returns-in-Some-clause-ok : goal.returns-in-Some-clause-ok
returns-in-Some-clause-ok g c =
    let done = c.settle.ensures in
    settled_all g.K.Machine.shown c.args.self.now _ c.in-Some.kernel c.settle.new.kernel c.settle.result
    c.in-Some.is refl done.kept done.forgets done.followed done.same (record { line = refl; number = refl; good = refl })

pub returns-in-Some-clause-err : goal.returns-in-Some-clause-err
returns-in-Some-clause-err g c =
    let done = c.settle.ensures in
    not_settled_all g.K.Machine.shown c.args.self.now _ c.in-Some.kernel c.settle.new.kernel c.settle.result c.in-Some.is refl done.kept done.unchanged done.fault

pub returns-in-None-clause-ok : goal.returns-in-None-clause-ok
returns-in-None-clause-ok g c = settled_none g.K.Machine.shown c.args.self.now c.in-None.is
