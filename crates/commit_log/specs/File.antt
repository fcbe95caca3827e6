-- What a file stands for.
use Rattle.std.specs.Prelude.{◌≡◌, ◌≢◌, ℕ, ◌+◌, ◌^◌, ◌<◌, ◌≤◌, List, [], ◌∷◌, ◌++◌, length, slice_index}
use Rattle.sqlite_disk.specs.Digest.{digest}
use Rattle.sqlite_disk.specs.Disk.{Holds}
use Rattle.commit_log.specs.Frame.{number, HasFrame, HasRecord, frame_length}

-- the bytes "kagzulog" as a number
abbrev pub magic : ℕ
magic = 0x676f_6c75_7a67_616b

-- the version of this layout
abbrev pub version : ℕ
version = 1

-- what the digest of a header is taken of
unfoldable pub named : ℕ → List ℕ
named key = number magic ++ (number version ++ number key)

-- the bytes of a header: the magic, the version, the key of all digests, and a digest of these
unfoldable pub header : ℕ → List ℕ
header key = named key ++ number (digest key (named key))

-- the file begins with the header of this key
pub record HasHeader (key : ℕ) (file : List ℕ) : Type 0 where
  pub bytes : Holds file 0 (header key)
  pub key_fits : key < 2 ^ 64

-- the file has room for a header, and names this version, which is another one
pub record HasOtherVersion (other : ℕ) (file : List ℕ) : Type 0 where
  pub long : 32 ≤ length file
  pub fits : other < 2 ^ 64
  pub bytes : Holds file 0 (number magic ++ number other)
  pub differs : other ≢ version

-- these records stand in the file one behind the other, from this place on up to that one
abbrev pub Stand : ℕ → List ℕ → ℕ → List (List ℕ) → ℕ → Type 0
Stand key file from [] end = from ≡ end
Stand key file from (payload ∷ records) end = HasRecord key file from payload × Stand key file (from + frame_length payload) records end

-- no record stands there
abbrev pub HasNone : ℕ → List ℕ → ℕ → Type 0
HasNone key file place = (payload : List ℕ) → HasRecord key file place payload → ⊥

-- from this place on the file has these records, and no further one behind them
pub record Continues (key : ℕ) (file : List ℕ) (from : ℕ) (records : List (List ℕ)) : Type 0 where
  pub end : ℕ
  pub stand : Stand key file from records end
  pub stops : HasNone key file end

-- the file is a log of these records
pub record Reads (key : ℕ) (file : List ℕ) (records : List (List ℕ)) : Type 0 where
  pub header : HasHeader key file
  pub continues : Continues key file 32 records

-- a frame behind this place says that what stood there was on the disk
pub record Tells (key : ℕ) (file : List ℕ) (place : ℕ) : Type 0 where
  pub later : ℕ
  pub kept : ℕ
  pub payload : List ℕ
  pub behind : place < later
  pub says : HasFrame key file later kept payload
  pub was_kept : place < kept

-- No record stands at this place, and a frame behind it says that what stood there was on the disk: it was damaged later.
pub record IsDamaged (key : ℕ) (file : List ℕ) (place : ℕ) : Type 0 where
  pub none : HasNone key file place
  pub tells : Tells key file place

-- no frame behind this place says that what stood there was on the disk
abbrev pub NoneTells : ℕ → List ℕ → ℕ → Type 0
NoneTells key file place = (later kept : ℕ) (payload : List ℕ) → place < later → HasFrame key file later kept payload → kept ≤ place

-- from this place on records stand, up to that one
abbrev pub Reaches : ℕ → List ℕ → ℕ → ℕ → Type 0
Reaches key file from end = (records : List (List ℕ)) × Stand key file from records end

-- nothing but zeros from this place on
abbrev pub IsBlankFrom : List ℕ → ℕ → Type 0
IsBlankFrom file place = (i : ℕ) → place + i < length file → slice_index file (place + i) ≡ 0
