-- What is read as a name is a name and a zero byte, and each of these is read.
use Rattle.std.proofs.Common.{◌≡◌, ◌≢◌, ℕ, zero, suc, ◌+◌, ◌<◌, Bool, true, false, cond, eqb, ltb, List, [], ◌∷◌, ◌++◌, length, take, drop, Some, None, refl, subst, ap, ◌∙◌, arith, length-append}
use Rattle.std.specs.Prelude.{not, ◌&&◌, ◌||◌, option_and_then}
use Rattle.std.specs.List.{AllByRecursion, list_any, position_or_len}
use Rattle.std.proofs.lemmas.Bool.{eqb-false, ne_eqb, ltb-true, lt-ltb}
use Rattle.std.proofs.lemmas.List.{take_at, drop_all}
use Rattle.fuse.specs.Names.{IsName, alone, first_name_in, is_name, name_in, name_up_to}

-- where the first zero byte stands
abbrev end_of : List ℕ → ℕ
end_of bytes = position_or_len (λ b. eqb b 0) bytes

end_step : (b : ℕ) (bs : List ℕ) → b ≢ 0 → end_of (b ∷ bs) ≡ suc (end_of bs)
end_step b bs ne =
    let e : eqb b 0 ≡ false = ne_eqb b 0 ne in
    rw e (omega arith)

-- where a zero byte stands, the bytes are those before it, itself and those behind it
cut_at_end : (bytes : List ℕ) → end_of bytes < length bytes → bytes ≡ take (end_of bytes) bytes ++ 0 ∷ drop (end_of bytes + 1) bytes
cut_at_end [] lt = absurd (omega arith)
cut_at_end (zero ∷ bs) lt = refl
cut_at_end (suc b ∷ bs) lt =
    let step : end_of (suc b ∷ bs) ≡ suc (end_of bs) = end_step (suc b) bs (λ e. omega (arith, e)) in
    let next : suc (end_of bs) + 1 ≡ suc (end_of bs + 1) = omega arith in
    rw (step, next) (ap (λ (xs : List ℕ). suc b ∷ xs) (cut_at_end bs (omega (arith, step, lt))))

-- no zero byte stands before the first
none_before : (bytes : List ℕ) → AllByRecursion (λ b. b ≢ 0) (take (end_of bytes) bytes)
none_before [] = tt
none_before (zero ∷ bs) = tt
none_before (suc b ∷ bs) =
    let step : end_of (suc b ∷ bs) ≡ suc (end_of bs) = end_step (suc b) bs (λ e. omega (arith, e)) in
    rw step ((λ e. omega (arith, e)), none_before bs)

-- both parts of an `or` that is false
or_parts : (a b : Bool) → (a || b) ≡ false → (a ≡ false) × (b ≡ false)
or_parts true b e = absurd cc
or_parts false b e = (refl, e)

-- where no slash is found, there is none
no_slash : (bytes : List ℕ) → list_any (λ b. eqb b 47) bytes ≡ false → AllByRecursion (λ b. b ≢ 47) bytes
no_slash [] e = tt
no_slash (b ∷ bs) e =
    let parts = or_parts (eqb b 47) (list_any (λ c. eqb c 47) bs) e in
    (eqb-false b 47 parts.0, no_slash bs parts.1)

both : (bytes : List ℕ) → AllByRecursion (λ b. b ≢ 0) bytes → AllByRecursion (λ b. b ≢ 47) bytes → AllByRecursion (λ b. (b ≢ 0) × (b ≢ 47)) bytes
both [] h k = tt
both (b ∷ bs) h k = ((h.0, k.0), both bs h.1 k.1)

-- both parts of a test for a name
name_parts : (a b : Bool) → (not a && not b) ≡ true → (a ≡ false) × (b ≡ false)
name_parts true b e = absurd cc
name_parts false true e = absurd cc
name_parts false false e = (refl, refl)

is_name_told : (bytes : List ℕ) → is_name bytes ≡ true → AllByRecursion (λ b. b ≢ 0) bytes → IsName bytes
is_name_told bytes e nonzero =
    let parts = name_parts (eqb (length bytes) 0) (list_any (λ b. eqb b 47) bytes) e in
    let ne : length bytes ≡ 0 → ⊥ = eqb-false (length bytes) 0 parts.0 in
    (omega (arith, ne), both bytes nonzero (no_slash bytes parts.1))

-- a name alone is the name, and nothing is behind it
alone_told : (xs rest name : List ℕ) → alone (xs, rest) ≡ Some name → (rest ≡ []) × (xs ≡ name)
alone_told xs [] name e = (refl, cc)
alone_told xs (r ∷ rs) name e =
    let ne : eqb (length (r ∷ rs)) 0 ≡ false = ne_eqb (length (r ∷ rs)) 0 (λ q. omega (arith, q)) in
    let none = rw ne at e in
    absurd cc

-- a name that ends at the first zero byte
at_end : (bytes name : List ℕ) → end_of bytes < length bytes → (t : Bool) → is_name (take (end_of bytes) bytes) ≡ t
    → option_and_then alone (cond t (Some (take (end_of bytes) bytes, drop (end_of bytes + 1) bytes)) None) ≡ Some name
    → IsName name × (bytes ≡ name ++ 0 ∷ [])
at_end bytes name lt false et e = absurd cc
at_end bytes name lt true et e =
    let told = alone_told (take (end_of bytes) bytes) (drop (end_of bytes + 1) bytes) name e in
    let whole : bytes ≡ take (end_of bytes) bytes ++ 0 ∷ [] = cut_at_end bytes lt ∙ ap (λ (xs : List ℕ). take (end_of bytes) bytes ++ 0 ∷ xs) told.0 in
    let is : IsName (take (end_of bytes) bytes) = is_name_told (take (end_of bytes) bytes) et (none_before bytes) in
    (subst IsName told.1 is, whole ∙ ap (λ (xs : List ℕ). xs ++ 0 ∷ []) told.1)

by_position : (bytes name : List ℕ) (s : Bool) → ltb (end_of bytes) (length bytes) ≡ s
    → option_and_then alone (option_and_then (name_up_to bytes) (cond s (Some (end_of bytes)) None)) ≡ Some name
    → IsName name × (bytes ≡ name ++ 0 ∷ [])
by_position bytes name false es e = absurd cc
by_position bytes name true es e = at_end bytes name (ltb-true (end_of bytes) (length bytes) es) (is_name (take (end_of bytes) bytes)) refl e

pub name_found : (bytes name : List ℕ) → name_in bytes ≡ Some name → IsName name × (bytes ≡ name ++ 0 ∷ [])
unfolding name_in first_name_in
name_found bytes name e = by_position bytes name (ltb (end_of bytes) (length bytes)) refl e

-- the first zero byte is the one behind the name
end_of_name : (name : List ℕ) → AllByRecursion (λ b. (b ≢ 0) × (b ≢ 47)) name → end_of (name ++ 0 ∷ []) ≡ length name
end_of_name [] h = refl
end_of_name (zero ∷ bs) h = absurd (h.0.0 refl)
end_of_name (suc b ∷ bs) h = end_step (suc b) (bs ++ 0 ∷ []) h.0.0 ∙ ap suc (end_of_name bs h.1)

no_slash_found : (name : List ℕ) → AllByRecursion (λ b. (b ≢ 0) × (b ≢ 47)) name → list_any (λ b. eqb b 47) name ≡ false
no_slash_found [] h = refl
no_slash_found (b ∷ bs) h = rw (ne_eqb b 47 h.0.1) (no_slash_found bs h.1)

pub name_only : (name : List ℕ) → IsName name → name_in (name ++ 0 ∷ []) ≡ Some name
unfolding name_in first_name_in
name_only name h =
    let some = h.0 in
    let n : end_of (name ++ 0 ∷ []) ≡ length name = end_of_name name h.1 in
    let within : ltb (length name) (length (name ++ 0 ∷ [])) ≡ true = lt-ltb (length name) (length (name ++ 0 ∷ [])) (omega (arith, length-append name (0 ∷ []))) in
    let front : take (length name) (name ++ 0 ∷ []) ≡ name = take_at name (0 ∷ []) (length name) refl in
    let rest : drop (length name + 1) (name ++ 0 ∷ []) ≡ [] = drop_all (length name + 1) (name ++ 0 ∷ []) (omega (arith, length-append name (0 ∷ []))) in
    let ne : eqb (length name) 0 ≡ false = ne_eqb (length name) 0 (λ e. omega (arith, e, h.0)) in
    let slash : list_any (λ b. eqb b 47) name ≡ false = no_slash_found name h.1 in
    rw (n, within, front, ne, slash, rest) refl
