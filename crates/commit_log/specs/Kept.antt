-- What a crash may leave of a log.
use Rattle.std.specs.Prelude.{◌≡◌, ◌⊎◌, ℕ, ◌≤◌, List, ◌∷◌, ◌++◌, length, take, drop}
use Rattle.commit_log.specs.File.{HasHeader, Stand, Reads}
use Rattle.commit_log.specs.Frame.{HasRecord}

-- the file begins with these records
pub record BeginsWith (key : ℕ) (records : List (List ℕ)) (end : ℕ) (file : List ℕ) : Type 0 where
  pub header : HasHeader key file
  pub stand : Stand key file 32 records end

-- whatever a crash leaves begins with these records
abbrev pub AreKept : (List ℕ → Type 0) → ℕ → List (List ℕ) → ℕ → Type 0
AreKept may_leave key records end = (file : List ℕ) → may_leave file → BeginsWith key records end file

-- the file is a log of the records that were kept, and of the first of those that were only appended
pub record ReadsFirst (key : ℕ) (kept appended : List (List ℕ)) (file : List ℕ) : Type 0 where
  pub count : ℕ
  pub no_more : count ≤ length appended
  pub reads : Reads key file (kept ++ take count appended)

-- The file begins so too, but behind it stands a frame whose digest fits, of a payload that was never appended there. Of the
-- bytes that a torn write leaves, a digest of 64 bits fits by chance only.
pub record IsForged (key : ℕ) (kept appended : List (List ℕ)) (file : List ℕ) : Type 0 where
  pub count : ℕ
  pub no_more : count ≤ length appended
  pub end : ℕ
  pub before : BeginsWith key (kept ++ take count appended) end file
  pub payload : List ℕ
  pub fits : HasRecord key file end payload
  pub never : (rest : List (List ℕ)) → drop count appended ≡ payload ∷ rest → ⊥

-- whatever a crash leaves is a log of all that was kept and of the first that were appended, or is forged
abbrev pub LeavesFirst : (List ℕ → Type 0) → ℕ → List (List ℕ) → List (List ℕ) → Type 0
LeavesFirst may_leave key kept appended =
    (file : List ℕ) → may_leave file → ReadsFirst key kept appended file ⊎ IsForged key kept appended file
