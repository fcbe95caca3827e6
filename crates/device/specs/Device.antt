-- What a sink takes and what a source gives, and how each counts its failures.
use Rattle.std.specs.Prelude.{◌≡◌, ℕ, ◌<◌, ◌+◌, ◌-◌, ◌^◌, ◌==◌, List, [], ◌∷◌, ◌++◌, take}
use Rattle.std.specs.Prelude.{Bool, true, false, Option, Result, Ok, Err, if◌then◌else◌}
use Rattle.std.specs.Io.KnownBytes.{append_known}

-- one more failure can be counted in 64 bits
abbrev pub CanCount : ℕ → Type 0
CanCount failures = failures < 2 ^ 64 - 1

-- the bytes that a read or write transferred, which returned their number
abbrev pub bytes_transferred : {E : Type 0} → Result ℕ E → List ℕ → List ℕ
bytes_transferred (Ok n) bytes = take n bytes
bytes_transferred (Err _) bytes = []

-- a read that returns an error
abbrev pub is_error : {E : Type 0} → Result ℕ E → Bool
is_error (Ok n) = false
is_error (Err _) = true

-- a write that returns an error, or takes nothing of a text that is not empty
abbrev pub is_failure : {E : Type 0} → Result ℕ E → List ℕ → Bool
is_failure (Err _) text = true
is_failure (Ok n) [] = false
is_failure (Ok n) (_ ∷ _) = n == 0

-- the count of failures after one more call, which failed or did not
abbrev pub count_after : ℕ → Bool → ℕ
count_after n failed = if failed then n + 1 else n

-- known bytes grew by a beginning of the text
pub record IsPart (old new : Option (List ℕ)) (text : List ℕ) : Type 0 where
  pub front : List ℕ
  pub back : List ℕ
  pub whole : text ≡ front ++ back
  pub appended : new ≡ append_known old front
