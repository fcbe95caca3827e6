-- What calls that only read leave of a disk.
use Rattle.std.specs.Prelude.{◌≡◌, List, ℕ, ◌<◌, ◌≤◌, ⊤, length, slice_index, Result, MatchResult, IsTrue}
use Rattle.sqlite_disk.specs.declared.Disk.{Ghosts}
use Rattle.sqlite_disk.specs.Disk.{MoreFaults}
use Rattle.commit_log.specs.declared.error.Error.{Error}
use Rattle.commit_log.specs.declared.error.Error.TheVariants.{NotALog, OtherVersion, Damaged, Taken, Full, Failed, TooLong, Memory}

abbrev pub IsClean : {D : Type 0} → Ghosts D → D → Type 0
IsClean g disk = IsTrue (g.is_clean disk)

-- it shows what it showed, and a crash leaves nothing else
pub record OnlyReads {D : Type 0} (g : Ghosts D) (old new : D) : Type 0 where
  pub seen : g.seen new ≡ g.seen old
  pub clean : IsClean g new → IsClean g old
  pub usable : IsTrue (g.is_usable new)
  pub crash : (file : List ℕ) → g.may_leave new file → g.may_leave old file

-- memory was refused, or a call of the disk failed between these counts
abbrev pub IsRefusal : ℕ → ℕ → Error → Type 0
IsRefusal old new Memory = ⊤
IsRefusal old new Full = MoreFaults old new
IsRefusal old new Failed = MoreFaults old new
IsRefusal old new NotALog = ⊥
IsRefusal old new (OtherVersion v) = ⊥
IsRefusal old new (Damaged p) = ⊥
IsRefusal old new Taken = ⊥
IsRefusal old new TooLong = ⊥

-- no fault at `Ok`, and such a cause at `Err`
abbrev pub ReadsOrRefuses : {T : Type 0} → Result T Error → ℕ → ℕ → Type 0
ReadsOrRefuses result old new = MatchResult result (λ _. new ≡ old) (IsRefusal old new)

-- no byte below this place changes, and the file is no shorter
pub record KeepsBelow (place : ℕ) (old new : List ℕ) : Type 0 where
  pub no_shorter : length old ≤ length new
  pub below : (i : ℕ) → i < length old → i < place → slice_index new i ≡ slice_index old i

-- whatever a crash leaves now, it might have left before but for what stands from this place on
abbrev pub ChangesFrom : ℕ → (List ℕ → Type 0) → (List ℕ → Type 0) → Type 0
ChangesFrom place old new = (file : List ℕ) → new file → (before : List ℕ) × old before × KeepsBelow place before file
