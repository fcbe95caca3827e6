-- A setup as it is read.
use Rattle.std.specs.Prelude.{◌≡◌, ℕ, ◌==◌, nat_le, nat_lt, ◌&&◌, List, [], ◌∷◌, ◌++◌, length, Result, Ok, Err}
use Rattle.std.specs.Prelude.{if◌then◌else◌, Bool, ⊤}
use Rattle.std.specs.Int.{w32}
use Rattle.ids.specs.declared.limits.Bounds.{Bounds}
use Rattle.ids.specs.declared.limits.TheConstants.{LARGEST_FILE, MAX_PROCESSES}
use Rattle.model.specs.Moments.{Setup}
use Rattle.entry_codec.specs.declared.fault.Fault.{Fault}
use Rattle.entry_codec.specs.declared.fault.Wrong.TheVariants as wrong
use Rattle.entry_codec.specs.Reading.{Read, ◌>>=◌, fault_at, byte_at, number_at, items_at, two, three}
use Rattle.store_form.specs.declared.fault.SetupError.{SetupError}
use Rattle.store_form.specs.declared.fault.SetupError.TheVariants.{NoMemory, OtherForm, Fault as Faulty}
use Rattle.store_form.specs.declared.read.Setup.{Setup as Made}
use Rattle.store_form.specs.Setups.{form}

-- what a setup of the program is
abbrev pub setup_of : Made → Setup
setup_of made = record { priorities = made.priorities.items; bounds = made.bounds }

abbrev pub in_range : ℕ × List ℕ → (ℕ → Bool) → Read ℕ
in_range n is_right = if is_right n.0 then Ok n else Err (fault_at wrong.Range n.1)

abbrev pub file_bytes_at : List ℕ → Read ℕ
file_bytes_at bytes = number_at w32 bytes >>= λ n. in_range n (λ k. nat_le k LARGEST_FILE)

abbrev pub bounds_from : ℕ → ℕ → ℕ → Bounds
bounds_from file_bytes descriptors path_bytes =
    record { file_bytes = file_bytes; descriptors = descriptors; path_bytes = path_bytes }

abbrev pub bounds_at : List ℕ → Read Bounds
bounds_at bytes = three bounds_from file_bytes_at (number_at w32) (number_at w32) bytes

abbrev pub count_at : List ℕ → Read ℕ
count_at bytes =
    number_at w32 bytes >>= λ n. in_range n (λ k. nat_lt 0 k && nat_le k MAX_PROCESSES)

abbrev pub priority_at : List ℕ → Read ℕ
priority_at bytes = byte_at bytes >>= λ n. in_range n (λ k. nat_lt k 8)

-- what was read before, and what is read, behind it
abbrev pub behind : List ℕ → Read ℕ → Read (List ℕ)
behind before read = read >>= λ one. Ok (before ++ one.0 ∷ [], one.1)

abbrev pub priorities_at : List ℕ → Read (List ℕ)
priorities_at bytes = count_at bytes >>= λ count. items_at priority_at count.0 count.1

abbrev pub setup_from : Bounds → List ℕ → Setup
setup_from bounds priorities = record { priorities = priorities; bounds = bounds }

-- what stands behind the number of the form: all of the bytes
abbrev pub body_in : List ℕ → Result Setup Fault
body_in bytes =
    two setup_from bounds_at priorities_at bytes >>= λ setup.
    (if length setup.1 == 0 then Ok setup.0 else Err (fault_at wrong.Trailing setup.1))

-- ---- a setup, or why there is none

abbrev pub or_fault : {X : Type 0} → Result X Fault → (X → Result Setup SetupError)
    → Result Setup SetupError
or_fault (Ok x) f = f x
or_fault (Err fault) f = Err (Faulty fault)

abbrev pub of_form : ℕ × List ℕ → Result Setup SetupError
of_form n =
    if n.0 == form then or_fault (body_in n.1) (λ setup. Ok setup) else Err (OtherForm n.0)

unfoldable pub setup_in : List ℕ → Result Setup SetupError
setup_in bytes = or_fault (number_at w32 bytes) of_form

-- What a function returned is what reading gives, unless memory was refused.
abbrev pub FailsSo : SetupError → Result Setup SetupError → Type 0
FailsSo NoMemory told = ⊤
FailsSo (OtherForm n) told = told ≡ Err (OtherForm n)
FailsSo (Faulty fault) told = told ≡ Err (Faulty fault)

abbrev pub GivesSetup : Result Made SetupError → Result Setup SetupError → Type 0
GivesSetup (Ok made) told = told ≡ Ok (setup_of made)
GivesSetup (Err e) told = FailsSo e told
