use Rattle.std.proofs.Common.{◌++◌}
use Rattle.kept.proofs.Faulting.{holds_unless, unless_from, unless_with}
use Rattle.kept.proofs.Holding.{appends_both, appends_same, leaves_wider}
use Rattle.kept.proofs.store.Store.flush.Goals as goal

pub returns-in_err-take-clause-appended : goal.returns-in_err-take-clause-appended
returns-in_err-take-clause-appended g c =
    let log = c.args.machine.now.shown.log in
    let e = c.in_err-take.field-0.0 in
    unless_from c.from_residual-in_err-take.result e _ c.from_residual-in_err-take.ensures.1
    (holds_unless e _ (λ kept appended. appends_same log kept c.args.self.now c.append_waiting.new.self c.take.new.self appended c.in_err-take.ensures.err (c.in_ok-append_waiting.ensures.appended log kept appended)))

pub returns-clause-appended : goal.returns-clause-appended
returns-clause-appended g c =
    let log = c.args.machine.now.shown.log in
    unless_with c.append_waiting-2.result _ _ (λ second kept. appends_both log kept c.args.self.now c.take.new.self c.append_waiting-2.new.self
    (λ appended holds. let went = c.in_ok-append_waiting.ensures.appended log kept appended holds in (went.0, c.in_ok-take.ensures.holds kept (appended ++ went.0) went.1))
    (second log kept)) c.append_waiting-2.ensures.appended

pub returns-clause-crash : goal.returns-clause-crash
returns-clause-crash g c = λ kept appended holds.
    let log = c.args.machine.now.shown.log in
    let went = c.in_ok-append_waiting.ensures.appended log kept appended holds in
    let taken = c.in_ok-take.ensures.holds kept (appended ++ went.0) went.1 in
    leaves_wider log kept appended c.append_waiting-2.new.self went.0 (c.append_waiting-2.ensures.crash log kept (appended ++ went.0) taken)
