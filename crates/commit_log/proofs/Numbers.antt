-- Numbers as eight bytes, and back.
use Rattle.std.proofs.Common.{◌≡◌, ℕ, ◌^◌, ◌<◌, List, length, refl}
use Rattle.std.specs.Int.{w64, from_le_bytes}
use Rattle.std.proofs.lemmas.Nat.{from_le_bytes-to_le_bytes_8}
use Rattle.commit_log.specs.Frame.{number}

-- the number that eight bytes are
unfoldable pub value : List ℕ → ℕ
value bytes = from_le_bytes w64 bytes

pub value-number : (n : ℕ) → n < 2 ^ 64 → value (number n) ≡ n
unfolding value number
value-number n fits = from_le_bytes-to_le_bytes_8 n fits

pub length-number : (n : ℕ) → length (number n) ≡ 8
unfolding number
length-number n = refl
