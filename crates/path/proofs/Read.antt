-- Names that were read from the left, and those that are left.
use Rattle.std.proofs.Common.{◌≡◌, ℕ, suc, ◌+◌, ◌<◌, ◌≤◌, Bool, true, false, cond, not, List, [], ◌∷◌, ◌++◌, length, take, drop, Some, None, Result, Ok, Err, nat_lt, refl, sym, ap, ◌∙◌, arith, ◌==◌, if◌then◌else◌}
use Rattle.std.specs.List.{position, position_or_len, slice_split, onto_first}
use Rattle.std.proofs.lemmas.List.Splits.{slice_split_first}
use Rattle.std.proofs.lemmas.Bool.Decides.{nat_tests}
use Rattle.ids.specs.declared.errno.Refusal.{Refusal}
use Rattle.ids.specs.declared.errno.Refusal.TheVariants.{Errno as Refused, NoMemory}
use Rattle.model.specs.Plan.{Errno}
use Rattle.model.specs.State.{Name}
use Rattle.model.specs.Paths.{pieces, in_front, with_first}
use Rattle.path.specs.Parsing.{after, IsRefusalBy}

abbrev pub is_slash : ℕ → Bool
is_slash b = b == 47

onto-in_front : (b : ℕ) (xs : List Name) → in_front b xs ≡ onto_first b xs
onto-in_front b [] = refl
onto-in_front b (x ∷ xs) = refl

pieces-split : (bs : List ℕ) → pieces bs ≡ slice_split is_slash bs
pieces-split [] = refl
pieces-split (b ∷ bs) =
    elim (b == 47) as (λ t. (if t then [] ∷ pieces bs else in_front b (pieces bs)) ≡ cond t ([] ∷ slice_split is_slash bs) (onto_first b (slice_split is_slash bs))) [
      | true ↦ ap (λ xs. [] ∷ xs) (pieces-split bs)
      | false ↦ ap (in_front b) (pieces-split bs) ∙ onto-in_front b (slice_split is_slash bs)
    ]

found : (b : Bool) (n end : ℕ) → cond b (Some n) None ≡ Some end → n ≡ end
found true n end h = cc
found false n end h = absurd cc

-- the first piece ends at the first slash
pub pieces-slash : (bs : List ℕ) (end : ℕ) → end < length bs → position is_slash bs ≡ Some end → pieces bs ≡ take end bs ∷ pieces (drop (end + 1) bs)
pieces-slash bs end low h =
    let e : position_or_len is_slash bs ≡ end = found _ _ end h in
    let within : position_or_len is_slash bs < length bs = omega arith in
    pieces-split bs ∙ slice_split_first is_slash bs 0 within
    ∙ ap (λ n. take n bs ∷ slice_split is_slash (drop (n + 1) bs)) e
    ∙ ap (λ xs. take end bs ∷ xs) (sym (pieces-split (drop (end + 1) bs)))

no_slash : (bs : List ℕ) → length bs ≤ position_or_len is_slash bs → slice_split is_slash bs ≡ bs ∷ []
no_slash [] h = refl
no_slash (b ∷ bs) h =
    elim (b == 47) as (λ t. suc (length bs) ≤ cond (not t) (1 + position_or_len is_slash bs) 0 → cond t ([] ∷ slice_split is_slash bs) (onto_first b (slice_split is_slash bs)) ≡ (b ∷ bs) ∷ []) [
      | true ↦ λ p. absurd (omega arith)
      | false ↦ λ p. ap (onto_first b) (no_slash bs (omega arith))
    ] h

unfound : (n len : ℕ) → cond (nat_lt n len) (Some n) None ≡ None → len ≤ n
unfound n len h = grind (arith, nat_tests)

-- without a slash there is one piece
pub pieces-whole : (bs : List ℕ) → position is_slash bs ≡ None → pieces bs ≡ bs ∷ []
pieces-whole bs h = pieces-split bs ∙ no_slash bs (unfound _ _ h)

-- the last name read stands before what the others come to
pub after-push : (xs : List Name) (x : Name) (r : Result (List Name) Errno) → after (xs ++ x ∷ []) r ≡ after xs (with_first x r)
after-push [] x r = refl
after-push (y ∷ ys) x r = ap (with_first y) (after-push ys x r)

pub after-Ok : (xs : List Name) → after xs (Ok []) ≡ Ok xs
after-Ok [] = refl
after-Ok (x ∷ xs) = ap (with_first x) (after-Ok xs)

after-Err : (xs : List Name) (e : Errno) → after xs (Err e) ≡ Err e
after-Err [] e = refl
after-Err (x ∷ xs) e = ap (with_first x) (after-Err xs e)

-- a refusal of what is left refuses the whole
pub refused-after : (why : Refusal) (xs : List Name) (r : Result (List Name) Errno) → IsRefusalBy why r → IsRefusalBy why (after xs r)
refused-after (Refused e) xs r h = ap (after xs) h ∙ after-Err xs e
refused-after NoMemory xs r h = tt
