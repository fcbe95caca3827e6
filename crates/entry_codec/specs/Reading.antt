-- Reading from left to right: a value and the bytes behind it, or the first fault.
use Rattle.std.specs.Prelude.{◌≡◌, ℕ, ℤ, zero, suc, nat_lt, ◌==◌, List, [], ◌∷◌, length, take, drop}
use Rattle.std.specs.Prelude.{Bool, true, false, Option, Some, None, Result, Ok, Err, if◌then◌else◌}
use Rattle.std.specs.Int.{Width, w16, w32, w64, byte_len, from_le_bytes, cast_signed}
use Rattle.entry_codec.specs.declared.fault.Fault.{Fault}
use Rattle.entry_codec.specs.declared.fault.Wrong.{Wrong}
use Rattle.entry_codec.specs.declared.fault.Wrong.TheVariants as wrong
use Rattle.entry_codec.specs.declared.fault.ReadError.{ReadError}
use Rattle.entry_codec.specs.declared.fault.ReadError.TheVariants as errors

abbrev pub Read : Type 0 → Type 0
Read A = Result (A × List ℕ) Fault

infixl 10 ◌>>=◌
abbrev pub ◌>>=◌ : {A B : Type 0} → Result A Fault → (A → Result B Fault) → Result B Fault
(Ok x) >>= f = f x
(Err e) >>= f = Err e

-- What a function returned, seen by view, is what reading gives, unless memory was refused.
abbrev pub Fails : {Y : Type 0} → ReadError → Result Y Fault → Type 0
Fails errors.NoMemory read = Unit {0}
Fails (errors.Fault fault) read = read ≡ Err fault

abbrev pub Gives : {X Y : Type 0} → (X → Y) → Result X ReadError → Result Y Fault → Type 0
Gives view (Ok x) read = read ≡ Ok (view x)
Gives view (Err e) read = Fails e read

abbrev pub fault_at : Wrong → List ℕ → Fault
fault_at w left = record { wrong = w; left = length left }

-- ---- fields one after the other

abbrev pub one : {A X : Type 0} → (A → X) → (List ℕ → Read A) → List ℕ → Read X
one make first bytes = first bytes >>= λ a. Ok (make a.0, a.1)

abbrev pub two : {A B X : Type 0} → (A → B → X) → (List ℕ → Read A) → (List ℕ → Read B)
    → List ℕ → Read X
two make first second bytes =
    first bytes >>= λ a. second a.1 >>= λ b. Ok (make a.0 b.0, b.1)

abbrev pub three : {A B C X : Type 0} → (A → B → C → X) → (List ℕ → Read A) → (List ℕ → Read B)
    → (List ℕ → Read C) → List ℕ → Read X
three make first second third bytes =
    first bytes >>= λ a. second a.1 >>= λ b. third b.1 >>= λ c. Ok (make a.0 b.0 c.0, c.1)

abbrev pub four : {A B C D X : Type 0} → (A → B → C → D → X) → (List ℕ → Read A)
    → (List ℕ → Read B) → (List ℕ → Read C) → (List ℕ → Read D) → List ℕ → Read X
four make first second third fourth bytes =
    first bytes >>= λ a. second a.1 >>= λ b. third b.1 >>= λ c. fourth c.1 >>= λ d.
    Ok (make a.0 b.0 c.0 d.0, d.1)

abbrev pub five : {A B C D E X : Type 0} → (A → B → C → D → E → X) → (List ℕ → Read A)
    → (List ℕ → Read B) → (List ℕ → Read C) → (List ℕ → Read D) → (List ℕ → Read E)
    → List ℕ → Read X
five make first second third fourth fifth bytes =
    first bytes >>= λ a. second a.1 >>= λ b. third b.1 >>= λ c. fourth c.1 >>= λ d.
    fifth d.1 >>= λ e. Ok (make a.0 b.0 c.0 d.0 e.0, e.1)

-- ---- numbers and bytes

abbrev pub byte_at : List ℕ → Read ℕ
byte_at [] = Err (fault_at wrong.Short [])
byte_at (b ∷ rest) = Ok (b, rest)

abbrev pub number_at : Width → List ℕ → Read ℕ
number_at w bytes =
    if nat_lt (length bytes) (byte_len w) then Err (fault_at wrong.Short bytes)
    else Ok (from_le_bytes w (take (byte_len w) bytes), drop (byte_len w) bytes)

abbrev pub signed_at : List ℕ → Read ℤ
signed_at bytes = one (cast_signed w64) (number_at w64) bytes

abbrev pub permissions_at : List ℕ → Read ℕ
permissions_at bytes =
    number_at w16 bytes >>= λ n.
    (if nat_lt n.0 4096 then Ok n else Err (fault_at wrong.Range n.1))

-- a size of nine bytes is 255 at least, so that each has one form
unfoldable pub size_at : List ℕ → Read ℕ
size_at bytes =
    byte_at bytes >>= λ small.
    (if nat_lt small.0 255 then Ok small
    else (number_at w64 small.1 >>= λ wide.
    (if nat_lt wide.0 255 then Err (fault_at wrong.Long wide.1) else Ok wide)))

unfoldable pub text_at : List ℕ → Read (List ℕ)
text_at bytes =
    size_at bytes >>= λ size.
    (if nat_lt (length size.1) size.0 then Err (fault_at wrong.Short size.1)
    else Ok (take size.0 size.1, drop size.0 size.1))

abbrev pub flag_of : ℕ → List ℕ → Read Bool
flag_of n rest =
    if n == 0 then Ok (false, rest)
    else if n == 1 then Ok (true, rest)
    else Err (fault_at wrong.Flag rest)

unfoldable pub flag_at : List ℕ → Read Bool
flag_at bytes = byte_at bytes >>= λ n. flag_of n.0 n.1

abbrev pub where_set : Bool → List ℕ → Read (Option ℕ)
where_set false rest = Ok (None, rest)
where_set true rest = one (λ n. Some n) (number_at w32) rest

unfoldable pub optional_at : List ℕ → Read (Option ℕ)
optional_at bytes = flag_at bytes >>= λ is_set. where_set is_set.0 is_set.1

-- ---- lists

unfoldable pub items_at : {A : Type 0} → (List ℕ → Read A) → ℕ → List ℕ → Read (List A)
items_at item_at zero bytes = Ok ([], bytes)
items_at item_at (suc n) bytes =
    item_at bytes >>= λ first. items_at item_at n first.1 >>= λ others.
    Ok (first.0 ∷ others.0, others.1)

abbrev pub list_at : {A : Type 0} → (List ℕ → Read A) → List ℕ → Read (List A)
list_at item_at bytes = size_at bytes >>= λ size. items_at item_at size.0 size.1
