-- The last of the entries that are kept.
use Rattle.std.proofs.Common.{◌≡◌, ℕ, ◌+◌, ◌-◌, List, [], ◌∷◌, ◌++◌, length, drop, Option, Some, None, refl, ap, ◌∙◌, inl, inr, arith}
use Rattle.std.proofs.lemmas.Bool.{cases_lt}
use Rattle.std.proofs.lemmas.List.{drop-append-le, drop_all, length-append}
use Rattle.std.specs.List.{slice_get}
use Rattle.model.specs.Entries.{Entry}

behind : (xs : List Entry) (e : Entry) → slice_get (xs ++ e ∷ []) (length xs) ≡ Some e
behind [] e = refl
behind (x ∷ xs) e = behind xs e

at_end : (xs : List Entry) (e : Entry) → slice_get (xs ++ e ∷ []) (length (xs ++ e ∷ []) - 1) ≡ Some e
at_end xs e =
    let last : length (xs ++ e ∷ []) - 1 ≡ length xs = omega (arith, length-append xs (e ∷ [])) in
    ap (slice_get (xs ++ e ∷ [])) last ∙ behind xs e

abbrev pub last_of : List Entry → Option Entry
last_of xs = slice_get xs (length xs - 1)

-- where any is kept, it is the last of all
pub last_is : (n : ℕ) (xs : List Entry) (e x : Entry) → Some x ≡ last_of (drop n (xs ++ e ∷ [])) → x ≡ e
last_is n xs e x h = elim (cases_lt (length xs) n) [
  | inl past ↦ (let none : drop n (xs ++ e ∷ []) ≡ [] = drop_all n (xs ++ e ∷ []) (omega (arith, length-append xs (e ∷ []))) in
      let gone : ◌≡◌ {A = Option Entry} (Some x) None = h ∙ ap last_of none in absurd cc)
  | inr within ↦ (let left : drop n (xs ++ e ∷ []) ≡ drop n xs ++ e ∷ [] = drop-append-le n xs (e ∷ []) within in
      let is : ◌≡◌ {A = Option Entry} (Some x) (Some e) = h ∙ ap last_of left ∙ at_end (drop n xs) e in cc)
]
