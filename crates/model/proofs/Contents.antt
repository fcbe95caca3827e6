-- A file's bytes, cut to a length or with bytes written into them: how many there are, and what stands at each place.
use Rattle.std.proofs.Common.{◌≡◌, ℕ, ◌+◌, ◌-◌, ◌<◌, ◌≤◌, max, List, ◌++◌, length, get_or, take, drop, replicate, refl, sym, ap, ◌∙◌, arith, inl, inr, length-append, length-take, length-drop, get_or-take, get_or-drop}
use Rattle.std.proofs.lemmas.Bool.{cases_lt}
use Rattle.std.proofs.lemmas.List.{get_or_past, get_or-append_right, get_or-replicate, length-replicate}
use Rattle.std.proofs.Math.ListN.{get_or-append}
use Rattle.model.specs.Changes.{sized, written}

pub length-sized : (len : ℕ) (old : List ℕ) → length (sized len old) ≡ len
length-sized len old = length-append (take len old) (replicate (len - length old) 0) ∙ omega (arith, length-take len old, length-replicate {A = ℕ} (len - length old) 0)

pub sized_at : (len : ℕ) (old : List ℕ) (i : ℕ) → i < len → get_or (sized len old) i 0 ≡ get_or old i 0
sized_at len old i low =
    elim (cases_lt i (length old)) [
      | inl inside ↦ get_or-append (take len old) (replicate (len - length old) 0) 0 i (omega (arith, length-take len old)) ∙ get_or-take len old i 0 low
      | inr past ↦ get_or-append_right (take len old) (replicate (len - length old) 0) (length old) i 0 (omega (arith, length-take len old)) past
          ∙ get_or-replicate (len - length old) (i - length old) 0 0 (omega arith) ∙ sym (get_or_past old i 0 past)
    ]

pub length-written : (old : List ℕ) (place : ℕ) (bytes : List ℕ) → length (written old place bytes) ≡ max (length old) (place + length bytes)
length-written old place bytes = length-append (sized place old) (bytes ++ drop (place + length bytes) old)
    ∙ omega (arith, length-sized place old, length-append bytes (drop (place + length bytes) old), length-drop (place + length bytes) old)

-- before the place the old bytes, then the new ones, then the old ones
pub written_before : (old : List ℕ) (place : ℕ) (bytes : List ℕ) (i : ℕ) → i < place → get_or (written old place bytes) i 0 ≡ get_or old i 0
written_before old place bytes i low = get_or-append (sized place old) (bytes ++ drop (place + length bytes) old) 0 i (omega (arith, length-sized place old)) ∙ sized_at place old i low

pub written_in : (old : List ℕ) (place : ℕ) (bytes : List ℕ) (i : ℕ) → place ≤ i → i < place + length bytes → get_or (written old place bytes) i 0 ≡ get_or bytes (i - place) 0
written_in old place bytes i low high = get_or-append_right (sized place old) (bytes ++ drop (place + length bytes) old) place i 0 (length-sized place old) low
    ∙ get_or-append bytes (drop (place + length bytes) old) 0 (i - place) (omega arith)

pub written_behind : (old : List ℕ) (place : ℕ) (bytes : List ℕ) (i : ℕ) → place + length bytes ≤ i → get_or (written old place bytes) i 0 ≡ get_or old i 0
written_behind old place bytes i low = get_or-append_right (sized place old) (bytes ++ drop (place + length bytes) old) place i 0 (length-sized place old) (omega arith)
    ∙ get_or-append_right bytes (drop (place + length bytes) old) (length bytes) (i - place) 0 refl (omega arith)
    ∙ get_or-drop (place + length bytes) old (i - place - length bytes) 0
    ∙ ap (λ n. get_or old n 0) (let e : place + length bytes + (i - place - length bytes) ≡ i = omega arith in e)
