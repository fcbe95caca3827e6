-- Numbers that were put are read again, and the first number of a message is its length.
use Rattle.std.proofs.Common.{◌≡◌, ℕ, ◌+◌, ◌<◌, ◌^◌, List, ◌++◌, length, sym, ap, ◌∙◌, append_assoc, arith, length-append}
use Rattle.byteorder.specs.Numbers.{little_number-reads_back}
use Rattle.fuse.specs.Numbers.{u32_at, u32_bytes, u64_at, u64_bytes}
use Rattle.fuse.specs.Replies.{message}
use Rattle.fuse.proofs.Lengths.{length-u32_bytes, length-u64_bytes}

-- a number that was put is read again, whatever follows
pub u32_at-u32_bytes : (n : ℕ) (rest : List ℕ) → n < 2 ^ 32 → u32_at (u32_bytes n ++ rest) 0 ≡ n
unfolding u32_at u32_bytes
u32_at-u32_bytes n rest lt = little_number-reads_back 4 n rest lt

pub u64_at-u64_bytes : (n : ℕ) (rest : List ℕ) → n < 2 ^ 64 → u64_at (u64_bytes n ++ rest) 0 ≡ n
unfolding u64_at u64_bytes
u64_at-u64_bytes n rest lt = little_number-reads_back 8 n rest lt

length-message : (unique error : ℕ) (body : List ℕ) → length (message unique error body) ≡ 16 + length body
unfolding message
length-message unique error body =
    let size : List ℕ = u32_bytes (16 + length body) in
    omega (
      arith,
      length-append ((size ++ u32_bytes error) ++ u64_bytes unique) body,
      length-append (size ++ u32_bytes error) (u64_bytes unique),
      length-append size (u32_bytes error),
      length-u32_bytes (16 + length body),
      length-u32_bytes error,
      length-u64_bytes unique,
    )

pub length_told : (unique error : ℕ) (body : List ℕ) → length (message unique error body) < 2 ^ 32
    → u32_at (message unique error body) 0 ≡ length (message unique error body)
unfolding message
length_told unique error body fits =
    let len : length (message unique error body) ≡ 16 + length body = length-message unique error body in
    let rest : List ℕ = u32_bytes error ++ (u64_bytes unique ++ body) in
    let regrouped : message unique error body ≡ u32_bytes (16 + length body) ++ rest = simp append_assoc in
    ap (λ (b : List ℕ). u32_at b 0) regrouped ∙ u32_at-u32_bytes (16 + length body) rest (omega (arith, len)) ∙ sym len
