-- A store that was opened again goes on.
use Rattle.std.specs.Prelude.{ℕ, List, []}
use Rattle.sqlite_disk.specs.declared.Disk.{Ghosts}
use Rattle.machine.specs.Shown.{Shown, setup_of}
use Rattle.commit_log.specs.File.{Reads}
use Rattle.commit_log.specs.Log.{disk_of as log_disk, Stands}
use Rattle.commit_log.specs.Reader.{disk_of}
use Rattle.commit_log.specs.Reads.{IsClean}
use Rattle.commit_log.specs.declared.log.Log.{Log}
use Rattle.recording.specs.Recorded.{records_of}
use Rattle.recovery.specs.Going.{IsReopened}
use Rattle.store_form.specs.Laws.{told_records}
use Rattle.store_form.specs.Stores.{IsStore}

-- What `kept::Store::resume` speaks of: the log has these payloads, each kept, and they tell all that the
-- machine has committed.
pub record MayResume {D : Type 0} {g : Ghosts D} (log : Log D g) (shown : Shown)
    (payloads : List (List ℕ)) : Type 0 where
  pub stands : Stands log payloads []
  pub store : IsStore (setup_of shown.log) payloads (told_records (records_of shown.log))

-- It is so of what `recovery::reopen` leaves, of the payloads that the file was read as, where no wrong
-- answer of the disk was taken as true.
abbrev pub ReopenedStoresGoOn : {D : Type 0} → Ghosts D → Type 0
ReopenedStoresGoOn {D = D} g =
    (disk : D) (shown : Shown) (log : Log D g) (again : IsReopened g disk shown log)
    → IsClean g (disk_of again.reader) → IsClean g (log_disk log)
    → (payloads : List (List ℕ)) → Reads again.key (g.seen disk) payloads
    → MayResume log shown payloads
