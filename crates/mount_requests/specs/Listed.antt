-- What a list of names shows.
use Rattle.std.specs.Prelude.{◌≡◌, ℕ, ◌+◌, ◌-◌, ◌^◌, ◌++◌, ◌∷◌, [], min, nat_le, drop, codes, List}
use Rattle.std.specs.Prelude.{length, if◌then◌else◌}
use Rattle.fuse.specs.Listed.{Listed}
use Rattle.fuse.specs.Listings.{padded}
use Rattle.fuse.specs.Numbers.{u32s, u64s}
use Rattle.fuse.specs.declared.reply.Reply.{Reply}
use Rattle.fuse.specs.declared.reply.Reply.TheVariants as reply

-- an entry: the number and the kind of the object are not told
abbrev pub plain_entry : ℕ → List ℕ → List ℕ
plain_entry index name =
    u64s ((2 ^ 32 - 1) ∷ (index + 1) ∷ []) ++ u32s (length name ∷ 0 ∷ []) ++ padded name

-- how many bytes that are
abbrev pub entry_size : List ℕ → ℕ
entry_size name = 24 + length (padded name)

-- names of a directory, of which the first has this index, as they are told
abbrev pub listed : ℕ → List (List ℕ) → List ℕ
listed index [] = []
listed index (name ∷ names) = plain_entry index name ++ listed (index + 1) names

-- the first of these names, as many as fit into so many bytes
abbrev pub fitting : ℕ → List (List ℕ) → List (List ℕ)
fitting room [] = []
fitting room (name ∷ names) =
    if nat_le (entry_size name) room then name ∷ fitting (room - entry_size name) names else []

-- the two names that each directory has come first
abbrev pub with_dots : List (List ℕ) → List (List ℕ)
with_dots names = codes "." ∷ codes ".." ∷ names

-- The names that a list of this size gives from an offset on: as many as fit. No list has more than
-- 1 MiB.
abbrev pub given : ℕ → ℕ → List (List ℕ) → List (List ℕ)
given offset size names = fitting (min size 1_048_576) (drop offset (with_dots names))

abbrev pub IsList : ℕ → ℕ → List (List ℕ) → Listed → Type 0
IsList offset size names list = list.bytes ≡ listed offset (given offset size names)

abbrev pub Lists : ℕ → ℕ → List (List ℕ) → Reply → Type 0
Lists offset size names (reply.Directory list) = IsList offset size names list
Lists offset size names _ = ⊥
