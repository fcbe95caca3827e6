use Rattle.std.proofs.Common.{◌++◌, refl}
use Rattle.kept.specs.Faults.{fault_of_log}
use Rattle.kept.proofs.Faulting.{log_stays, memory_unless, on_err_from, told_of_log}
use Rattle.kept.proofs.Holding.{holds_kept, holds_same, leaves_these, leaves_wider}
use Rattle.kept.proofs.store.Store.keep.Goals as goal

pub returns-in_err-keep-clause-waits : goal.returns-in_err-keep-clause-waits
returns-in_err-keep-clause-waits g c =
    let log = c.args.machine.now.shown.log in
    let e = c.in_err-keep.field-0.0 in
    on_err_from c.from_residual-in_err-keep.result (fault_of_log e) _ c.from_residual-in_err-keep.ensures.1 (memory_unless (fault_of_log e) _ (told_of_log e) (λ memory kept appended holds.
    let went = c.in_ok-flush.ensures.appended kept appended holds in
    (went.0, holds_same c.flush.new.self _ log kept (appended ++ went.0) (log_stays c.flush.new.self.log c.keep.new.self ⊥ e c.in_err-keep.ensures.cause memory) refl refl went.1)))

pub returns-in_err-keep-clause-crash : goal.returns-in_err-keep-clause-crash
returns-in_err-keep-clause-crash g c = λ kept appended holds.
    let log = c.args.machine.now.shown.log in
    let went = c.in_ok-flush.ensures.appended kept appended holds in
    leaves_wider log kept appended _ went.0 (leaves_these log kept (appended ++ went.0) c.flush.new.self _ went.1 (c.in_err-keep.ensures.crash kept (appended ++ went.0) went.1.stands))

pub returns-clause-kept : goal.returns-clause-kept
returns-clause-kept g c = λ kept appended holds.
    let log = c.args.machine.now.shown.log in
    let went = c.in_ok-flush.ensures.appended kept appended holds in
    (went.0, holds_kept c.flush.new.self _ log kept (appended ++ went.0) went.1 refl refl (c.in_ok-keep.ensures.kept kept (appended ++ went.0) went.1.stands) (c.in_ok-keep.ensures.acknowledged kept (appended ++ went.0) went.1.stands))

pub returns-clause-crash : goal.returns-clause-crash
returns-clause-crash g c = λ kept appended holds.
    let log = c.args.machine.now.shown.log in
    let went = c.in_ok-flush.ensures.appended kept appended holds in
    leaves_wider log kept appended _ went.0 (leaves_these log kept (appended ++ went.0) c.flush.new.self _ went.1 (c.in_ok-keep.ensures.crash kept (appended ++ went.0) went.1.stands))
