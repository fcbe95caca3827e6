-- A directory that is read to its end, list after list.
use Rattle.std.specs.Prelude.{◌≡◌, ℕ, ◌+◌, ◌*◌, ◌/◌, ◌≤◌, ◌<◌, ◌^◌, ◌++◌, ◌∷◌, []}
use Rattle.std.specs.Prelude.{List, length, take, drop}
use Rattle.std.specs.List.{AllByRecursion}
use Rattle.fuse.specs.Numbers.{u32_at, u64_at}
use Rattle.mount_requests.specs.Listed.{given, listed, with_dots}

-- an entry as it is read: its name, and the offset from which lists go on behind it
pub record Read : Type 0 where
  pub behind : ℕ
  pub name : List ℕ

-- The bytes are read as these entries, as Linux goes through a list: by the length that each entry
-- tells of its name (FUSE_DIRENT_SIZE in fuse.h).
abbrev pub AreRead : List ℕ → List Read → Type 0
AreRead bytes [] = bytes ≡ []
AreRead bytes (entry ∷ entries) =
    (u64_at bytes 8 ≡ entry.behind) × (take (u32_at bytes 16) (drop 24 bytes) ≡ entry.name)
    × AreRead (drop ((24 + u32_at bytes 16 + 7) / 8 * 8) bytes) entries

-- names as they are read, of which the first has this index
abbrev pub each_read : ℕ → List (List ℕ) → List Read
each_read index [] = []
each_read index (name ∷ names) =
    record { behind = index + 1; name = name } ∷ each_read (index + 1) names

-- the offset behind the last of these entries; where there is none it stays as it was
abbrev pub behind : ℕ → List Read → ℕ
behind offset [] = offset
behind offset (entry ∷ entries) = behind entry.behind entries

-- what is read of a list that is asked from this offset in this size
abbrev pub read_once : List (List ℕ) → ℕ → ℕ → List Read
read_once names offset size = each_read offset (given offset size names)

-- What is read of lists of these sizes: of the first from this offset on, of each further one from
-- the offset behind the last entry before it.
abbrev pub read_by : List (List ℕ) → ℕ → List ℕ → List Read
read_by names offset [] = []
read_by names offset (size ∷ sizes) =
    read_once names offset size
    ++ read_by names (behind offset (read_once names offset size)) sizes

-- the list of this size behind those
abbrev pub read_next : List (List ℕ) → List ℕ → ℕ → List Read
read_next names sizes size = read_once names (behind 0 (read_by names 0 sizes)) size

-- a name as long as names may be, and the size of a list that has room for it
abbrev pub IsShort : List ℕ → Type 0
IsShort name = length name ≤ 255

abbrev pub HasRoom : ℕ → Type 0
HasRoom size = 280 ≤ size

pub record ListsAreWhole : Type 0 where
  -- the bytes of a list are read as its names
  pub told : (names : List (List ℕ)) (offset size : ℕ) → AllByRecursion IsShort names
      → offset + length (given offset size names) < 2 ^ 64
      → AreRead (listed offset (given offset size names)) (read_once names offset size)
  -- where the next list is empty, each name was read once, in order
  pub whole : (names : List (List ℕ)) (sizes : List ℕ) (size : ℕ)
      → AllByRecursion IsShort names → HasRoom size → read_next names sizes size ≡ []
      → read_by names 0 sizes ≡ each_read 0 (with_dots names)
  -- and it is empty at last
  pub ends : (names : List (List ℕ)) (sizes : List ℕ) (size : ℕ)
      → AllByRecursion IsShort names → AllByRecursion HasRoom sizes
      → length (with_dots names) ≤ length sizes → read_next names sizes size ≡ []
