use Rattle.std.proofs.Common.{refl, ◌∙◌}
use Rattle.kept.proofs.Holding.{holds_taken}
use Rattle.kept.proofs.store.Store.take.Goals as goal

pub returns-clause-holds : goal.returns-clause-holds
returns-clause-holds g c = λ kept appended holds.
    let old = c.args.self.now in
    let log = c.args.machine.now.shown.log in
    holds_taken old _ log kept appended holds c.requires c.in_ok-records.records.items refl c.from.ensures.0 (c.taken-self.ensures ∙ c.in_ok-records.ensures.taken) c.in_ok-records.ensures.rest
