use Rattle.notes.proofs.Laws.{ok_so}
use Rattle.shadow.proofs.claims.Rooms.{directory_is, promised_none, promised_one}
use Rattle.shadow.proofs.stable.Stable.promise_in.Goals as goal

pub promise-requires : goal.promise-requires
promise-requires c = directory_is c.args.self.now c.in-Some.dir c.args.dir c.in-Some.is c.requires

pub returns-in-Some-clause-kept : goal.returns-in-Some-clause-kept
returns-in-Some-clause-kept c = ok_so c.promise.result (promised_one c.args.self.now c.promise.new.self c.in-Some.dir c.args.dir c.in-Some.is) c.promise.ensures.kept

pub returns-in-None-clause-kept : goal.returns-in-None-clause-kept
returns-in-None-clause-kept c = promised_none c.args.self.now c.args.dir c.in-None.is

pub returns-in-None-clause-stays : goal.returns-in-None-clause-stays
returns-in-None-clause-stays c = record { used = λ n none. none; directories = λ n there. there }
