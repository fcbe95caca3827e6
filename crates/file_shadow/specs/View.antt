-- What a transaction changes in one file, and any file with the changes on top (TxOS, section 4:
-- shadow copies).
use Rattle.std.specs.Prelude.{◌≡◌, ℕ, ◌/◌, ◌%◌, ◌<◌, ◌≤◌, ◌==◌, ◌⊎◌, ◌↔◌, max, nat_lt}
use Rattle.std.specs.Prelude.{Option, Some, None, if◌then◌else◌}
use Rattle.std.specs.Prelude.{List, [], ◌∷◌, length, get_or, map, Contains}
use Rattle.std.specs.Option.{unwrap_or}
use Rattle.std.specs.List.{range_with_len}
use Rattle.model.specs.Plan.{blocks}
use Rattle.ids.specs.declared.limits.TheConstants.{LARGEST_FILE}
use Rattle.ids.specs.declared.limits.TheConstants.{BLOCK_LEN}
use Rattle.file_shadow.specs.declared.shadow.Extent.{Extent}
use Rattle.file_shadow.specs.declared.shadow.Lengths.{Lengths}

-- the blocks into which bytes were written: their numbers, and the bytes that were written into
-- each of them
pub record ChangedBlocks : Type 0 where
  pub numbers : List ℕ
  pub blocks : List (List (Option ℕ))

-- how far the file reaches, and the changed blocks
pub record FileChanges : Type 0 where
  pub extent : Extent
  pub changed : ChangedBlocks

-- the block of a number in two lists side by side
abbrev pub lookup : ℕ → List ℕ → List (List (Option ℕ)) → Option (List (Option ℕ))
lookup k [] bs = None
lookup k (n ∷ ns) [] = None
lookup k (n ∷ ns) (b ∷ bs) = if n == k then Some b else lookup k ns bs

-- the changed block of a number
abbrev pub block_of : ChangedBlocks → ℕ → Option (List (Option ℕ))
block_of c k = lookup k c.numbers c.blocks

-- the byte that was written at an offset of its block, or what it is without one
abbrev pub in_block : Option (List (Option ℕ)) → ℕ → ℕ → ℕ
in_block None i other = other
in_block (Some b) i other = unwrap_or (get_or b (i % BLOCK_LEN) None) other

-- the byte of an offset with the changed blocks over it
abbrev pub laid : ChangedBlocks → ℕ → ℕ → ℕ
laid c i other = in_block (block_of c (i / BLOCK_LEN)) i other

-- the byte of an offset without the changed blocks: the stable one below the least length, and zero
-- at or past it
abbrev pub stable_byte : ℕ → List ℕ → ℕ → ℕ
stable_byte least stable i = if nat_lt i least then get_or stable i 0 else 0

-- the length over a stable file that has so many bytes: a write reaches at least to its end, and a
-- cut decides it
abbrev pub len_on : Option ℕ → ℕ → ℕ → ℕ
len_on None end stable = max stable end
len_on (Some least) end stable = end

-- the lengths over a stable file that has so many bytes
abbrev pub lengths_on : Extent → ℕ → Lengths
lengths_on e stable = record { len = len_on e.kept e.end stable; least = unwrap_or e.kept stable }

-- a byte of the view
abbrev pub view_byte : FileChanges → List ℕ → ℕ → ℕ
view_byte d stable i =
    laid d.changed i (stable_byte (lengths_on d.extent (length stable)).least stable i)

-- the view: a stable file with the changes on top
abbrev pub view_over : FileChanges → List ℕ → List ℕ
view_over d stable =
    map (view_byte d stable) (range_with_len 0 (lengths_on d.extent (length stable)).len)

-- one more edit, over each stable file, however long and whatever its bytes
abbrev pub AddsEdit : FileChanges → FileChanges → (List ℕ → List ℕ) → Type 0
AddsEdit old new step = (xs : List ℕ) → view_over new xs ≡ step (view_over old xs)

-- the changed blocks after a write of so many bytes are those before it and those of the bytes
abbrev pub AddsBlocks : FileChanges → FileChanges → ℕ → ℕ → Type 0
AddsBlocks old new offset count = (k : ℕ) → Contains new.changed.numbers k
    ↔ (Contains old.changed.numbers k ⊎ Contains (blocks offset count) k)

-- each byte outside the changed blocks stays
abbrev pub OnlyChanged : FileChanges → List ℕ → List ℕ → Type 0
OnlyChanged d old new = (i : ℕ)
    → Contains d.changed.numbers (i / BLOCK_LEN) ⊎ (get_or new i 0 ≡ get_or old i 0)

-- each number is below those behind it
abbrev pub IsRising : List ℕ → Type 0
IsRising ns = (i j : ℕ) → i < j → j < length ns → get_or ns i 0 < get_or ns j 0

-- the changed blocks are in order, each under its number
pub record IsInOrder (c : ChangedBlocks) : Type 0 where
  pub same : length c.numbers ≡ length c.blocks
  pub rising : IsRising c.numbers

-- no byte but zero was written at or past an offset
abbrev pub PastIsZero : ℕ → List ℕ → List (List (Option ℕ)) → Type 0
PastIsZero len ns bs = (p : ℕ) → len ≤ p → in_block (lookup (p / BLOCK_LEN) ns bs) p 0 ≡ 0

-- what is true of each shadow
pub record IsSound (d : FileChanges) : Type 0 where
  pub order : IsInOrder d.changed
  pub kept : unwrap_or d.extent.kept 0 ≤ d.extent.end
  pub small : d.extent.end ≤ LARGEST_FILE
  pub zeros : PastIsZero d.extent.end d.changed.numbers d.changed.blocks
