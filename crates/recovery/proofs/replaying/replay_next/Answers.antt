use Rattle.std.proofs.Common.{ℕ, List, subst}
use Rattle.recovery.specs.Coming.{IsMadeAgain}
use Rattle.recovery.proofs.Going.{none_next, record_next}
use Rattle.recovery.proofs.replaying.replay_next.Goals as goal

pub returns-in-None-clause-goes : goal.returns-in-None-clause-goes
returns-in-None-clause-goes g c =
    none_next g.D.Disk c.args.reader.now c.next.new.self (g.M.Machine.shown c.args.machine.now) c.in_ok-found.found c.in-None.is c.requires c.in_ok-found.ensures.reads

pub returns-in_ok-replay_at-in-Some-clause-goes : goal.returns-in_ok-replay_at-in-Some-clause-goes
returns-in_ok-replay_at-in-Some-clause-goes g c =
    let before = (g.M.Machine.shown c.args.machine.now).log in
    let after = (g.M.Machine.shown c.replay_at.new.machine).log in
    record_next g.D.Disk c.args.reader.now c.next.new.self before after c.in_ok-found.found c.in-Some.place c.in-Some.is c.in_ok-found.ensures.reads
    (subst (λ (bytes : List ℕ). IsMadeAgain before after bytes) c.payload.ensures c.in_ok-replay_at-in-Some.ensures.again)
