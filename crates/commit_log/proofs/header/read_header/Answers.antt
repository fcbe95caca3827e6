use Rattle.std.proofs.Common.{◌≡◌, length, arith, rules}
use Rattle.std.proofs.lemmas.Result.{err_from_is_err_and}
use Rattle.commit_log.proofs.Refusals.{no_log_by_refusal, no_log_by_bytes}
use Rattle.commit_log.proofs.Spelled.{length-header}
use Rattle.commit_log.proofs.header.read_header.Goals as goal

pub returns-in_err-size-clause-cause : goal.returns-in_err-size-clause-cause
returns-in_err-size-clause-cause g c =
    let p = err_from_is_err_and c.from_residual.result c.from_residual.ensures.1 in
    rw (p.1, p.2) (λ clean. no_log_by_refusal _ _ _ _ c.in_err-size.ensures.cause)

pub returns-then-size-lt-HEADER-clause-cause : goal.returns-then-size-lt-HEADER-clause-cause
returns-then-size-lt-HEADER-clause-cause g c clean = (
  λ key has. omega (arith, has.bytes.within, length-header key, c.in_ok-size.ensures.size clean),
  λ v other. omega (arith, other.long, c.in_ok-size.ensures.size clean),
)

pub returns-in_err-read_bytes-clause-cause : goal.returns-in_err-read_bytes-clause-cause
returns-in_err-read_bytes-clause-cause g c =
    let p = err_from_is_err_and c.from_residual-in_err-read_bytes.result c.from_residual-in_err-read_bytes.ensures.1 in
    let first : g.D.Disk.faults c.size_of.new.disk ≡ g.D.Disk.faults c.args.disk.now = c.in_ok-size.ensures.cause in
    rw (p.1, p.2) (λ clean. no_log_by_refusal _ _ _ _ (rw first at c.in_err-read_bytes.ensures.cause))

pub returns-in_err-key_in-clause-cause : goal.returns-in_err-key_in-clause-cause
returns-in_err-key_in-clause-cause g c =
    let p = err_from_is_err_and c.from_residual-in_err-key_in.result c.from_residual-in_err-key_in.ensures.1 in
    let seen : g.D.Disk.seen c.size_of.new.disk ≡ g.D.Disk.seen c.args.disk.now = c.size_of.ensures.same.seen in
    let whole : length c.read_bytes.new.bytes ≡ 32 = search rules in
    rw (p.1, p.2) (λ clean. no_log_by_bytes _ c.read_bytes.new.bytes _ _ _ (rw seen at (c.in_ok-read_bytes.ensures.read clean)) whole c.in_err-key_in.ensures.refused)
