-- What a reader shows.
use Rattle.std.specs.Prelude.{◌≡◌, ℕ, List, ◌++◌, drop, IsTrue}
use Rattle.sqlite_disk.specs.declared.Disk.{Ghosts}
use Rattle.commit_log.specs.declared.reader.Reader.{Reader}
use Rattle.commit_log.specs.File.{Continues}
use Rattle.commit_log.specs.Kept.{BeginsWith, AreKept, LeavesFirst}

module _ {D : Type 0} {g : Ghosts D} where
  abbrev pub disk_of : Reader D g → D
  disk_of reader = reader.disk

  abbrev pub key_of : Reader D g → ℕ
  key_of reader = reader.key

  -- where the next record is looked for
  abbrev pub place_of : Reader D g → ℕ
  place_of reader = reader.place

  -- the payload of the record that was read last
  abbrev pub payload_of : Reader D g → List ℕ
  payload_of reader = drop 32 reader.frame.items

-- the reader has read these records of the file, and the rest is still to be read
pub record IsAt {D : Type 0} {g : Ghosts D} (reader : Reader D g) (before rest : List (List ℕ)) : Type 0 where
  pub begins : BeginsWith reader.key before reader.place (g.seen reader.disk)
  pub continues : Continues reader.key (g.seen reader.disk) reader.place rest

-- Where a crash left the kept records before, it leaves them on this disk, and the first of the others.
abbrev pub KeepsAcross : {D : Type 0} {g : Ghosts D} → Reader D g → D → List (List ℕ) → List (List ℕ) → Type 0
KeepsAcross {g = g} reader disk kept appended =
    IsTrue (g.is_clean disk) → (before rest : List (List ℕ)) (end : ℕ) → IsAt reader before rest → before ++ rest ≡ kept ++ appended
    → AreKept (g.may_leave reader.disk) reader.key kept end → LeavesFirst (g.may_leave disk) reader.key kept appended
