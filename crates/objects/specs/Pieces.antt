-- A file as pieces of one size, in groups. A piece that is not there has no bytes and no room, and
-- what a piece has not is zero.
use Rattle.std.specs.Prelude.{◌≡◌, ℕ, ◌+◌, ◌-◌, ◌*◌, ◌/◌, ◌%◌, ◌<◌, ◌≤◌, ◌⊎◌, Option}
use Rattle.std.specs.Prelude.{List, [], length, map, get_or, min}
use Rattle.std.specs.List.{range_with_len}
use Rattle.std.specs.Option.{unwrap_or}
use Rattle.std.specs.Prelude.{None}
use Rattle.objects.specs.Contents.{Content}
use Rattle.objects.specs.declared.group.TheConstants.{PIECE_LEN, GROUP_LEN}

abbrev pub no_piece : Content
no_piece = record { bytes = []; room = 0 }

-- a piece of a group, and one of a file, by its number
abbrev pub piece_in : List Content → ℕ → Content
piece_in pieces index = get_or pieces index no_piece

abbrev pub piece_of : List (List Content) → ℕ → Content
piece_of groups number = piece_in (get_or groups (number / GROUP_LEN) []) (number % GROUP_LEN)

-- the byte at an offset
abbrev pub byte_of : List (List Content) → ℕ → ℕ
byte_of groups offset = get_or (piece_of groups (offset / PIECE_LEN)).bytes (offset % PIECE_LEN) 0

-- as many bytes, from the first on
abbrev pub bytes_of : List (List Content) → ℕ → List ℕ
bytes_of groups len = map (byte_of groups) (range_with_len 0 len)

-- What a contract sees of a file: its bytes, and for how many bytes of each piece there is memory, group
-- by group.
pub record FileContent : Type 0 where
  pub bytes : List ℕ
  pub rooms : List (List ℕ)

abbrev pub rooms_of : List (List Content) → List (List ℕ)
rooms_of groups = map (λ pieces. map (λ piece. piece.room) pieces) groups

-- for how many bytes of a piece there is memory, by its number
abbrev pub room_for : List (List ℕ) → ℕ → ℕ
room_for rooms number = get_or (get_or rooms (number / GROUP_LEN) []) (number % GROUP_LEN) 0

-- no piece is longer than a piece may be, and none reaches past the end
abbrev pub EndsBy : ℕ → List (List Content) → Type 0
EndsBy len groups = (number : ℕ)
    → length (piece_of groups number).bytes ≤ min PIECE_LEN (len - number * PIECE_LEN)

-- written into a piece from an offset on, which is longer then where they end behind it
pub record LaidIn (offset : ℕ) (cells : List (Option ℕ)) (old new : List ℕ) : Type 0 where
  pub low : length old ≤ length new
  pub len : (n : ℕ) → length old ≤ n → offset + length cells ≤ n → length new ≤ n
  pub inside : (p : ℕ) → offset ≤ p → p < offset + length cells
      → get_or new p 0 ≡ unwrap_or (get_or cells (p - offset) None) (get_or old p 0)
  pub outside : (p : ℕ) → (p < offset) ⊎ (offset + length cells ≤ p) → get_or new p 0 ≡ get_or old p 0

-- bytes from one offset on, below another, are zero, and the others stay; what is not there is zero
pub record WipedIn (from to : ℕ) (old new : List ℕ) : Type 0 where
  pub len : length new ≤ length old
  pub inside : (p : ℕ) → from ≤ p → p < to → get_or new p 0 ≡ 0
  pub outside : (p : ℕ) → (p < from) ⊎ (to ≤ p) → get_or new p 0 ≡ get_or old p 0

-- there is memory for these bytes, piece by piece
abbrev pub HasRoom : List (List ℕ) → (offset count : ℕ) → Type 0
HasRoom rooms offset count = (number : ℕ) → offset < number * PIECE_LEN + PIECE_LEN
    → number * PIECE_LEN < offset + count
    → min PIECE_LEN (offset + count - number * PIECE_LEN) ≤ room_for rooms number

-- The pieces from one on have come from two places, of which one has no bytes, into the larger room;
-- those before it are those of the second place. `piece` tells a place's pieces.
pub record JoinedFrom
    {Place : Type 0} (piece : Place → ℕ → Content) (from : ℕ) (one other now : Place)
    : Type 0 where
  pub below : (n : ℕ) → n < from → piece now n ≡ piece other n
  pub first : (n : ℕ) → from ≤ n → (piece other n).bytes ≡ []
      → (piece now n).bytes ≡ (piece one n).bytes
  pub second : (n : ℕ) → from ≤ n → (piece one n).bytes ≡ []
      → (piece now n).bytes ≡ (piece other n).bytes
  pub mine : (n : ℕ) → from ≤ n → (piece one n).room ≤ (piece now n).room
  pub theirs : (n : ℕ) → from ≤ n → (piece other n).room ≤ (piece now n).room
