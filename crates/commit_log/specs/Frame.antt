-- A record as bytes: a frame with its own place, how far the file was kept when it was written, its length and its payload.
use Rattle.std.specs.Prelude.{ℕ, ◌+◌, ◌^◌, ◌<◌, List, ◌++◌, length, take, drop}
use Rattle.std.specs.Int.{w64, to_le_bytes}
use Rattle.sqlite_disk.specs.Digest.{digest}
use Rattle.sqlite_disk.specs.Disk.{Holds}

-- n bytes of a file from a place on
unfoldable pub part : List ℕ → ℕ → ℕ → List ℕ
part file at n = take n (drop at file)

-- a number in eight bytes, the lowest first
unfoldable pub number : ℕ → List ℕ
number n = to_le_bytes w64 n

-- What the digest of a frame is taken of: its place in the file, the place up to which all was on the disk when it was
-- written, and the payload behind its length.
unfoldable pub content : ℕ → ℕ → List ℕ → List ℕ
content place kept payload = number place ++ (number kept ++ (number (length payload) ++ payload))

-- the bytes of a frame
unfoldable pub frame : ℕ → ℕ → ℕ → List ℕ → List ℕ
frame key place kept payload = number (digest key (content place kept payload)) ++ content place kept payload

-- how many bytes the frame of a payload has
abbrev pub frame_length : List ℕ → ℕ
frame_length payload = 32 + length payload

-- a frame of this payload stands in the file at this place, and says that the file was kept up to `kept`
pub record HasFrame (key : ℕ) (file : List ℕ) (place kept : ℕ) (payload : List ℕ) : Type 0 where
  pub bytes : Holds file place (frame key place kept payload)
  pub kept_fits : kept < 2 ^ 64
  pub length_fits : length payload < 2 ^ 64

-- the same, whatever it says of that
abbrev pub HasRecord : ℕ → List ℕ → ℕ → List ℕ → Type 0
HasRecord key file place payload = (kept : ℕ) × HasFrame key file place kept payload
