use Rattle.std.proofs.Common.{◌≡◌, length, ◌∙◌, ap, subst, arith}
use Rattle.sqlite_disk.specs.Disk.{Holds}
use Rattle.std.proofs.lemmas.Result.{err_from_is_err_and}
use Rattle.commit_log.specs.declared.error.Error.TheVariants.{Taken}
use Rattle.commit_log.specs.Reads.{IsRefusal}
use Rattle.commit_log.specs.File.{header}
use Rattle.commit_log.proofs.Making.{grows_written, grows_on}
use Rattle.commit_log.proofs.Spelled.{length-header}
use Rattle.commit_log.proofs.create.write_header.Goals as goal

pub write_bytes-requires-clause-some : goal.write_bytes-requires-clause-some
write_bytes-requires-clause-some g c =
    omega (arith, ap length (c.deref.ensures.value ∙ c.in_ok-header.ensures), length-header c.key-key.result)

pub returns-in_err-write_bytes-clause-crash : goal.returns-in_err-write_bytes-clause-crash
returns-in_err-write_bytes-clause-crash g c =
    grows_written (g.D.Disk.may_leave c.args.disk.now) (g.D.Disk.may_leave c.size_of.new.disk) (g.D.Disk.may_leave c.write_bytes.new.disk) (length c.deref.result.now) (ap length (c.deref.ensures.value ∙ c.in_ok-header.ensures) ∙ length-header c.key-key.result) c.size_of.ensures.same.crash c.write_bytes.ensures.crash

pub returns-in_err-sync-clause-crash : goal.returns-in_err-sync-clause-crash
returns-in_err-sync-clause-crash g c =
    grows_on (g.D.Disk.may_leave c.args.disk.now) (g.D.Disk.may_leave c.write_bytes.new.disk) (g.D.Disk.may_leave c.sync.new.disk) (
    grows_written (g.D.Disk.may_leave c.args.disk.now) (g.D.Disk.may_leave c.size_of.new.disk) (g.D.Disk.may_leave c.write_bytes.new.disk) (length c.deref.result.now) (ap length (c.deref.ensures.value ∙ c.in_ok-header.ensures) ∙ length-header c.key-key.result) c.size_of.ensures.same.crash c.write_bytes.ensures.crash
    ) c.sync.ensures.crash

pub returns-clause-crash : goal.returns-clause-crash
returns-clause-crash g c =
    grows_on (g.D.Disk.may_leave c.args.disk.now) (g.D.Disk.may_leave c.write_bytes.new.disk) (g.D.Disk.may_leave c.sync.new.disk) (
    grows_written (g.D.Disk.may_leave c.args.disk.now) (g.D.Disk.may_leave c.size_of.new.disk) (g.D.Disk.may_leave c.write_bytes.new.disk) (length c.deref.result.now) (ap length (c.deref.ensures.value ∙ c.in_ok-header.ensures) ∙ length-header c.key-key.result) c.size_of.ensures.same.crash c.write_bytes.ensures.crash
    ) c.sync.ensures.crash

pub returns-clause-made : goal.returns-clause-made
returns-clause-made g c clean =
    let is : c.deref.result.now ≡ header c.key-key.result = c.deref.ensures.value ∙ c.in_ok-header.ensures in
    let new = g.D.Disk.seen c.write_bytes.new.disk in
    let held : Holds new 0 (header c.key-key.result) = subst (Holds new 0) is c.in_ok-write_bytes.ensures.written in
    let torn = c.write_bytes.ensures.others in
    let empty = c.in_ok-size_of.ensures.size (c.write_bytes.ensures.clean (c.sync.ensures.clean clean)) in
    rw c.sync.ensures.seen (
      record { bytes = held; key_fits = omega arith },
      omega (arith, empty, ap length c.size_of.ensures.same.seen, torn.no_longer, held.within, ap length is, length-header c.key-key.result),
    )

pub returns-clause-empty : goal.returns-clause-empty
returns-clause-empty g c clean =
    omega (arith, c.in_ok-size_of.ensures.size (c.write_bytes.ensures.clean (c.sync.ensures.clean clean)))

pub returns-in_err-write_bytes-clause-taken : goal.returns-in_err-write_bytes-clause-taken
returns-in_err-write_bytes-clause-taken g c taken =
    let p = err_from_is_err_and c.from_residual-in_err-write_bytes.result c.from_residual-in_err-write_bytes.ensures.1 in
    let is : c.in_err-write_bytes.field-0.0 ≡ Taken = cc in
    absurd (subst (IsRefusal (g.D.Disk.faults c.size_of.new.disk) (g.D.Disk.faults c.write_bytes.new.disk)) is c.in_err-write_bytes.ensures.cause)

pub returns-in_err-sync-clause-taken : goal.returns-in_err-sync-clause-taken
returns-in_err-sync-clause-taken g c taken =
    let p = err_from_is_err_and c.from_residual-in_err-sync.result c.from_residual-in_err-sync.ensures.1 in
    let is : c.in_err-sync.field-0.0 ≡ Taken = cc in
    absurd (subst (IsRefusal (g.D.Disk.faults c.write_bytes.new.disk) (g.D.Disk.faults c.sync.new.disk)) is c.in_err-sync.ensures.cause)
