-- A file that a header was written to.
use Rattle.std.proofs.Common.{◌≡◌, ℕ, ◌≤◌, List, [], length, refl, arith}
use Rattle.sqlite_disk.specs.Disk.{Torn, Follows}
use Rattle.commit_log.specs.declared.error.Error.{Error}
use Rattle.commit_log.specs.declared.error.Error.TheVariants.{NotALog, OtherVersion, Damaged, Taken, Full, Failed, TooLong, Memory}
use Rattle.commit_log.specs.File.{HasHeader, IsBlankFrom}
use Rattle.commit_log.specs.Kept.{BeginsWith}
use Rattle.commit_log.specs.Create.{CreateCause, Grows}
use Rattle.commit_log.specs.Reads.{IsRefusal}

pub create_by_refusal : (file : List ℕ) (old new : ℕ) (e : Error) → IsRefusal old new e → CreateCause file old new e
create_by_refusal file old new NotALog h = h
create_by_refusal file old new (OtherVersion v) h = h
create_by_refusal file old new (Damaged p) h = h
create_by_refusal file old new Taken h = absurd h
create_by_refusal file old new Full h = h
create_by_refusal file old new Failed h = h
create_by_refusal file old new TooLong h = h
create_by_refusal file old new Memory h = h

pub grows_same : (old : List ℕ → Type 0) → Grows old old
grows_same old file left = (file, left, omega arith)

pub grows_less : (old new : List ℕ → Type 0) → ((file : List ℕ) → new file → old file) → Grows old new
grows_less old new less file left = (file, less file left, omega arith)

pub grows_written : (first old new : List ℕ → Type 0) (n : ℕ) → n ≡ 32 → ((file : List ℕ) → old file → first file) → Follows (Torn 0 n) old new → Grows first new
grows_written first old new n whole less follows file left =
    let from = follows file left in (from.0, less from.0 from.1, omega (arith, from.2.no_longer))

pub grows_on : (first old new : List ℕ → Type 0) → Grows first old → ((file : List ℕ) → new file → old file) → Grows first new
grows_on first old new grows less file left = grows file (less file left)

pub blank_at_end : (file : List ℕ) (place : ℕ) → length file ≤ place → IsBlankFrom file place
blank_at_end file place short i within = absurd (omega arith)

pub begins_empty : (key : ℕ) (file : List ℕ) → HasHeader key file → BeginsWith key [] 32 file
begins_empty key file has = record { header = has; stand = refl }
