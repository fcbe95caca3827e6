-- What a refusal of the disk is to a caller, and that a file with other bytes in front is no log.
use Rattle.std.proofs.Common.{arith, ◌≡◌, ℕ, List, length, sym, ◌∙◌}
use Rattle.sqlite_disk.specs.Disk.{Holds}
use Rattle.commit_log.specs.declared.error.Error.{Error}
use Rattle.commit_log.specs.declared.error.Error.TheVariants.{NotALog, OtherVersion, Damaged, Taken, Full, Failed, TooLong, Memory}
use Rattle.commit_log.specs.File.{magic, header}
use Rattle.commit_log.specs.Header.{IsNoHeader, HasNoLog}
use Rattle.commit_log.specs.Reads.{IsRefusal}
use Rattle.commit_log.proofs.Parts.{part_held}
use Rattle.commit_log.proofs.Spelled.{length-header, two_numbers, numbers_in_front}

pub no_log_by_refusal : (file : List ℕ) (old new : ℕ) (e : Error) → IsRefusal old new e → HasNoLog file old new e
no_log_by_refusal file old new NotALog h = absurd h
no_log_by_refusal file old new (OtherVersion v) h = absurd h
no_log_by_refusal file old new (Damaged p) h = absurd h
no_log_by_refusal file old new Taken h = absurd h
no_log_by_refusal file old new Full h = h
no_log_by_refusal file old new Failed h = h
no_log_by_refusal file old new TooLong h = absurd h
no_log_by_refusal file old new Memory h = h

pub no_log_by_bytes : (file bytes : List ℕ) (old new : ℕ) (e : Error) → Holds file 0 bytes → length bytes ≡ 32 → IsNoHeader bytes e → HasNoLog file old new e
no_log_by_bytes file bytes old new NotALog held whole none = (
  λ key has. none.0 key has.key_fits (sym (part_held file bytes 0 32 held whole) ∙ part_held file (header key) 0 32 has.bytes (length-header key)),
  λ v other.
      let says = numbers_in_front file bytes magic v other.bytes held whole in other.differs (none.1 v other.fits says.0 says.1),
)
no_log_by_bytes file bytes old new (OtherVersion v) held whole other = record {
  long = omega (arith, held.within);
  fits = other.3;
  bytes = two_numbers file bytes magic v held whole other.0 other.1;
  differs = other.2;
}
no_log_by_bytes file bytes old new (Damaged p) held whole h = absurd h
no_log_by_bytes file bytes old new Taken held whole h = absurd h
no_log_by_bytes file bytes old new Full held whole h = absurd h
no_log_by_bytes file bytes old new Failed held whole h = absurd h
no_log_by_bytes file bytes old new TooLong held whole h = absurd h
no_log_by_bytes file bytes old new Memory held whole h = absurd h
