-- Reading priorities one after the other, as the loop does.
use Rattle.std.proofs.Common.{◌≡◌, ℕ, ◌+◌, ◌-◌, ◌<◌, List, [], ◌∷◌, ◌++◌, Ok, Err, ap, subst}
use Rattle.entry_codec.specs.declared.fault.Fault.{Fault}
use Rattle.entry_codec.specs.declared.fault.ReadError.{ReadError}
use Rattle.entry_codec.specs.declared.fault.ReadError.TheVariants as errors
use Rattle.entry_codec.specs.Reading.{Read, Fails, items_at}
use Rattle.entry_codec.proofs.Formats.{bind_ok, ok_is}
use Rattle.entry_codec.proofs.Loop.{with_front, goes_on}
use Rattle.store_form.specs.ReadingSetups.{behind, priority_at}

-- one more was read
pub more_are_read : (before now : List ℕ) (count i : ℕ) (bytes after : List ℕ) (total : Read (List ℕ)) → i < count → behind before (priority_at bytes) ≡ Ok (now, after)
    → with_front before (items_at priority_at (count - i) bytes) ≡ total → with_front now (items_at priority_at (count - (i + 1)) after) ≡ total
more_are_read before now count i bytes after total lt read so_far =
    let a = bind_ok (priority_at bytes) (λ one. Ok (before ++ one.0 ∷ [], one.1)) (now, after) read in
    let first : List ℕ × List ℕ = (before ++ a.0.0 ∷ [], a.0.1) in
    let made : List ℕ × List ℕ = (now, after) in
    subst (λ (y : List ℕ × List ℕ). with_front y.0 (items_at priority_at (count - (i + 1)) y.1) ≡ total) (ok_is first made a.2)
    (goes_on priority_at before count i bytes a.0.0 a.0.1 total lt a.1 so_far)

-- none was
pub none_is_read : (e : ReadError) (before : List ℕ) (read : Read ℕ) → Fails e (behind before read) → Fails e read
none_is_read errors.NoMemory before read h = tt
none_is_read (errors.Fault fault) before (Ok one) h = absurd cc
none_is_read (errors.Fault fault) before (Err d) h = let same : d ≡ fault = cc in ap (λ (x : Fault). Err x) same
