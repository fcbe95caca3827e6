use Rattle.std.proofs.Common.{◌++◌, Err, refl, ap, ◌∙◌}
use Rattle.kept.proofs.Faulting.{memory_unless, unless_from}
use Rattle.kept.proofs.Holding.{appends_both, appends_none, appends_same, leaves_held, leaves_wider}
use Rattle.kept.proofs.store.Store.append_waiting.Goals as goal

pub loop-self-init : goal.loop-self-init
loop-self-init g c = record {
  goes = λ log kept appended holds. appends_none log kept c.args.self.now appended holds;
  taken = refl;
}

pub loop-self-preserved : goal.loop-self-preserved
loop-self-preserved g c = record {
  goes = λ log kept appended holds. appends_both log kept c.args.self.now c.loop-self.self c.append_first.new.self (c.loop-self.invariant.goes log kept) (c.in_ok-append_first.ensures.appended log kept) appended holds;
  taken = c.in_ok-append_first.ensures.taken ∙ c.loop-self.invariant.taken;
}

pub returns-in_err-append_first-clause-appended : goal.returns-in_err-append_first-clause-appended
returns-in_err-append_first-clause-appended g c =
    let e = c.in_err-append_first.field-0.0 in
    unless_from c.from_residual.result e _ c.from_residual.ensures.1 (memory_unless e _ c.in_err-append_first.ensures.fault (λ memory log kept appended. appends_same log kept c.args.self.now c.loop-self.self c.append_first.new.self appended (c.in_err-append_first.ensures.memory (ap Err memory)) (c.loop-self.invariant.goes log kept appended)))

pub returns-in_err-append_first-clause-crash : goal.returns-in_err-append_first-clause-crash
returns-in_err-append_first-clause-crash g c = λ log kept appended holds.
    let went = c.loop-self.invariant.goes log kept appended holds in
    leaves_wider log kept appended c.append_first.new.self went.0 (c.in_err-append_first.ensures.crash log kept (appended ++ went.0) went.1)

pub returns-clause-crash : goal.returns-clause-crash
returns-clause-crash g c = λ log kept appended holds.
    let went = c.loop-self.invariant.goes log kept appended holds in
    leaves_wider log kept appended c.loop-self.self went.0 (leaves_held log kept (appended ++ went.0) c.loop-self.self went.1)
