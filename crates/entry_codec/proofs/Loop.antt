-- Reading items one after the other, as a loop does.
use Rattle.std.proofs.Common.{◌≡◌, ℕ, suc, ◌-◌, ◌+◌, ◌≤◌, ◌<◌, List, [], ◌∷◌, ◌++◌, Ok, Err, refl, sym, ap, ◌∙◌, append_assoc, arith}
use Rattle.std.proofs.lemmas.List.{append-nil}
use Rattle.entry_codec.specs.declared.fault.ReadError.{ReadError}
use Rattle.entry_codec.specs.declared.fault.ReadError.TheVariants as errors
use Rattle.entry_codec.specs.Reading.{Read, ◌>>=◌, Fails, items_at}
use Rattle.entry_codec.proofs.Formats.{done}

-- what was read before, and what is still read
abbrev pub with_front : {A : Type 0} → List A → Read (List A) → Read (List A)
with_front front read = read >>= λ x. Ok (front ++ x.0, x.1)

regroup : {A : Type 0} (front : List A) (item : A) (read : Read (List A)) → with_front front (read >>= λ x. Ok (item ∷ x.0, x.1)) ≡ with_front (front ++ item ∷ []) read
regroup {A = A} front item (Ok x) = ap (λ (items : List A). done {A = List A × List ℕ} (items, x.1)) (simp append_assoc)
regroup front item (Err f) = refl

pub goes_on : {A : Type 0} (r : List ℕ → Read A) (front : List A) (count i : ℕ) (bytes : List ℕ) (item : A) (after : List ℕ) (total : Read (List A)) → i < count → r bytes ≡ Ok (item, after)
    → with_front front (items_at r (count - i) bytes) ≡ total → with_front (front ++ item ∷ []) (items_at r (count - (i + 1)) after) ≡ total
unfolding items_at
goes_on r front count i bytes item after total lt h so_far =
    let k : count - i ≡ suc (count - (i + 1)) = omega arith in
    let one : with_front front (items_at r (count - i) bytes) ≡ with_front (front ++ item ∷ []) (items_at r (count - (i + 1)) after) = rw (k, h) (regroup front item (items_at r (count - (i + 1)) after)) in
    sym one ∙ so_far

pub ends : {A : Type 0} (r : List ℕ → Read A) (e : ReadError) (front : List A) (count i : ℕ) (bytes : List ℕ) (total : Read (List A)) → i < count → Fails e (r bytes)
    → with_front front (items_at r (count - i) bytes) ≡ total → Fails e total
unfolding items_at
ends r errors.NoMemory front count i bytes total lt h so_far = tt
ends r (errors.Fault f) front count i bytes total lt h so_far =
    let k : count - i ≡ suc (count - (i + 1)) = omega arith in
    let one : with_front front (items_at r (count - i) bytes) ≡ Err f = rw (k, h) refl in
    sym so_far ∙ one

pub is_done : {A : Type 0} (r : List ℕ → Read A) (front : List A) (count i : ℕ) (bytes : List ℕ) (total : Read (List A)) → count ≤ i → with_front front (items_at r (count - i) bytes) ≡ total → total ≡ Ok (front, bytes)
unfolding items_at
is_done {A = A} r front count i bytes total le so_far =
    let k : count - i ≡ 0 = omega arith in
    let one : with_front front (items_at r (count - i) bytes) ≡ Ok (front, bytes) = rw k (ap (λ (items : List A). done {A = List A × List ℕ} (items, bytes)) (append-nil front)) in
    sym so_far ∙ one
