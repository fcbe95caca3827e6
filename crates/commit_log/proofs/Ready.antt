-- A file that was made ready for further records.
use Rattle.std.proofs.Common.{◌≡◌, ℕ, ◌+◌, List, [], ◌∷◌, ◌++◌, refl, subst, arith}
use Rattle.sqlite_disk.specs.declared.Disk.{Ghosts}
use Rattle.commit_log.specs.declared.error.Error.{Error}
use Rattle.commit_log.specs.declared.error.Error.TheVariants.{NotALog, OtherVersion, Damaged, Taken, Full, Failed, TooLong, Memory}
use Rattle.commit_log.specs.Frame.{frame_length, HasRecord}
use Rattle.commit_log.specs.File.{HasNone, Reaches, Continues, Stand}
use Rattle.commit_log.specs.Kept.{BeginsWith, AreKept, LeavesFirst}
use Rattle.commit_log.specs.Opened.{IsOpened, OpenCause}
use Rattle.commit_log.specs.Reads.{ChangesFrom, IsRefusal}
use Rattle.commit_log.proofs.Crash.{leaves_first, kept_by_sync}
use Rattle.commit_log.proofs.Opening.{same_end}
use Rattle.commit_log.proofs.Spelled.{same_record}
use Rattle.commit_log.proofs.Standing.{stand_forward, stand_on, stand_split, begins_below, begins_push, same_records}

pub open_by_refusal : {D : Type 0} (g : Ghosts D) (key from : ℕ) (old new : D) (e : Error) → IsRefusal (g.faults old) (g.faults new) e → OpenCause g key from old new e
open_by_refusal g key from old new NotALog h = h
open_by_refusal g key from old new (OtherVersion v) h = h
open_by_refusal g key from old new (Damaged p) h = absurd h
open_by_refusal g key from old new Taken h = h
open_by_refusal g key from old new Full h = h
open_by_refusal g key from old new Failed h = h
open_by_refusal g key from old new TooLong h = h
open_by_refusal g key from old new Memory h = h

pub same_place : (key : ℕ) (file : List ℕ) (from a b : ℕ) → Reaches key file from a → HasNone key file a → Reaches key file from b → HasNone key file b → a ≡ b
same_place key file from a b first none second other =
    (same_records key file from first.0 second.0 a b first.1 none second.1 other).1

pub changes_after : (place : ℕ) (first old new : List ℕ → Type 0) → ((file : List ℕ) → old file → first file) → ChangesFrom place old new → ChangesFrom place first new
changes_after place first old new less changes file left =
    let before = changes file left in (before.0, less before.0 before.1, before.2)

-- the records that were read and those that were not are all of them
stand_all : (key : ℕ) (file : List ℕ) (before rest : List (List ℕ)) (place end : ℕ) → BeginsWith key before place file → Continues key file place rest → Reaches key file place end → HasNone key file end → BeginsWith key (before ++ rest) end file
stand_all key file before rest place end begins continues reaches none =
    let same = same_place key file place continues.end end (rest, continues.stand) continues.stops reaches none in
    record { header = begins.header; stand = stand_on key file 32 before place rest end begins.stand (subst (Stand key file place rest) same continues.stand) }

pub begins_opened : (key from end : ℕ) (old new : List ℕ) (may_leave : List ℕ → Type 0) (before rest : List (List ℕ)) → IsOpened key from end old new may_leave → BeginsWith key before from old → Continues key old from rest → BeginsWith key (before ++ rest) end new
begins_opened key from end old new may_leave before rest opened begins continues =
    begins_below key old new end (before ++ rest) end opened.keeps (omega arith) (stand_all key old before rest from end begins continues opened.reaches opened.none)

pub kept_opened : (key from end : ℕ) (old new : List ℕ) (may_leave : List ℕ → Type 0) (before rest : List (List ℕ)) → IsOpened key from end old new may_leave → BeginsWith key before from old → Continues key old from rest → AreKept may_leave key (before ++ rest) end
kept_opened key from end old new may_leave before rest opened begins continues =
    kept_by_sync new may_leave key (before ++ rest) end (begins_opened key from end old new may_leave before rest opened begins continues) opened.durable

-- what a crash leaves of a file that is changed behind its records begins with what it began with before
pub keeps_across : (key from : ℕ) (seen : List ℕ) (old new : List ℕ → Type 0) (before rest kept appended : List (List ℕ)) (upto : ℕ) → BeginsWith key before from seen → Continues key seen from rest → before ++ rest ≡ kept ++ appended
    → ((end : ℕ) → Reaches key seen from end → HasNone key seen end → ChangesFrom end old new)
    → AreKept old key kept upto → LeavesFirst new key kept appended
keeps_across key from seen old new before rest kept appended upto begins continues same changes all =
    let end = continues.end in
    let reaches : Reaches key seen from end = (rest, continues.stand) in
    let whole = stand_all key seen before rest from end begins continues reaches continues.stops in
    let split = stand_split key seen 32 kept appended end (subst (λ (l : List (List ℕ)). Stand key seen 32 l end) same whole.stand) in
    leaves_first new key kept upto appended λ file left.
    let was = changes end reaches continues.stops file left in
    let began = all was.0 was.1 in
    let here : upto ≡ split.0 = same_end key was.0 seen 32 kept upto split.0 began.stand split.1 in
    begins_below key was.0 file end kept upto was.2 (omega (arith, here, stand_forward key seen split.0 appended end split.2)) began

-- one record was read
pub read_one : (key place : ℕ) (file : List ℕ) (before rest : List (List ℕ)) (payload : List ℕ) → BeginsWith key before place file → Continues key file place rest → HasRecord key file place payload
    → (later : List (List ℕ)) × (rest ≡ payload ∷ later) × BeginsWith key (before ++ payload ∷ []) (place + frame_length payload) file × Continues key file (place + frame_length payload) later
read_one key place file before [] payload begins continues has =
    absurd (continues.stops payload (subst (λ (p : ℕ). HasRecord key file p payload) continues.stand has))
read_one key place file before (r ∷ later) payload begins continues has =
    let same : r ≡ payload = same_record key file place r payload continues.stand.0 has in (
      later,
      (λ i. same i ∷ later),
      begins_push key file before place payload begins has,
      record {
        end = continues.end;
        stand = subst (λ (p : List ℕ). Stand key file (place + frame_length p) later continues.end) same continues.stand.1;
        stops = continues.stops;
      },
    )

-- no further record was found
pub read_none : (key place : ℕ) (file : List ℕ) (rest : List (List ℕ)) → Continues key file place rest → HasNone key file place → rest ≡ []
read_none key place file [] continues none = refl
read_none key place file (r ∷ later) continues none = absurd (none r continues.stand.0)
