-- What names give once the notes of a patch are laid over them, one after the other.
use Rattle.std.proofs.Common.{◌≡◌, ℕ, ◌-◌, Bool, true, false, cond, List, [], ◌∷◌, Option, Some, None, IsPermutation, nat_eq, count_by, refl, sym, ap, subst, ◌∙◌}
use Rattle.std.proofs.lemmas.List.Elements.{All-from_recursion, recursion_from_All}
use Rattle.std.proofs.lemmas.List.Sorted.{All-permutation, IsPermutation-cons, IsPermutation-middle, IsPermutation-refl, IsPermutation-trans, sum_by-IsPermutation}
use Rattle.std.proofs.lemmas.Map.Keys.{IsDistinct-from_sorted, IsDistinct-head, IsDistinct-tail}
use Rattle.std.specs.Cmp.Lexicographic.{pointwise}
use Rattle.std.specs.List.{AllByRecursion, IsDistinct}
use Rattle.std.specs.Map.{keys_of}
use Rattle.std.specs.Ordering.{is_eq}
use Rattle.std.specs.declared.cmp.Ordering.{Ordering}
use Rattle.std.specs.declared.cmp.Ordering.TheVariants.{Less, Equal, Greater}
use Rattle.std.specs.FinMap.Entries.{by_order as before_or_behind, find, put}
use Rattle.model.specs.FiniteMap.{FinMap, get, entries, entries_sorted, from_entries, entries-empty, entries-insert, get-entries, get-from_entries, get-insert, get-remove, same_map}
use Rattle.model.specs.State.{Name, name_cmp}
use Rattle.model.proofs.Laws.{tie}
use Rattle.dirlist.specs.Patches.{Notes, or_before, IsLaid}
use Rattle.dirlist.proofs.Laws.{by_order, keys_rise, name_total, name_exact, same}
use Rattle.store.specs.Laid.{in_order, laid, laid_listing, with_note}

-- a name that differs from all others has no note among theirs
unnoted : (x : Name) (notes : List (Name × Option ℕ)) → AllByRecursion (λ y. same x y ≡ false) (keys_of notes) → find name_cmp x notes ≡ None
unnoted x [] apart = refl
unnoted x (note ∷ notes) apart = ap (λ b. cond b (Some note.1) (find name_cmp x notes)) apart.0 ∙ unnoted x notes apart.1

get-with_note : (x : Name) (target : Option ℕ) (names : FinMap name_cmp ℕ) (q : Name) → get (with_note x target names) q ≡ cond (same q x) target (get names q)
get-with_note x (Some n) names q = get-insert name_total names x n q
get-with_note x None names q = get-remove name_total names x q

-- where the names of the notes differ, each name gives what is noted of it, or what it gave before
get-laid : (notes : List (Name × Option ℕ)) → IsDistinct same (keys_of notes) → (names : FinMap name_cmp ℕ) (q : Name) → get (laid notes names) q ≡ or_before (find name_cmp q notes) (get names q)
get-laid [] differ names q = refl
get-laid (note ∷ notes) differ names q =
    get-laid notes (IsDistinct-tail same note.0 (keys_of notes) differ) (with_note note.0 note.1 names) q
    ∙ ap (or_before (find name_cmp q notes)) (get-with_note note.0 note.1 names q)
    ∙ by_first (same q note.0) refl
  where
    by_first : (b : Bool) → same q note.0 ≡ b → or_before (find name_cmp q notes) (cond b note.1 (get names q)) ≡ or_before (cond b (Some note.1) (find name_cmp q notes)) (get names q)
    by_first true is =
        let one : q ≡ note.0 = name_exact q note.0 (tie (name_cmp q note.0) is) in
        ap (λ o. or_before o note.1) (ap (λ x. find name_cmp x notes) one ∙ unnoted note.0 notes (IsDistinct-head same note.0 (keys_of notes) differ))
    by_first false is = refl

-- the names of a patch differ
noted_differ : (notes : Notes) → IsDistinct same (keys_of (entries notes))
noted_differ notes = IsDistinct-from_sorted name_cmp (keys_of (entries notes)) (keys_rise name_total (entries notes) (entries_sorted notes))

-- the notes of a patch, laid one after the other
pub laid_is : (notes : Notes) (names : FinMap name_cmp ℕ) → IsLaid notes names (laid (entries notes) names)
laid_is notes names q =
    get-laid (entries notes) (noted_differ notes) names q
    ∙ ap (λ (noted : Option (Option ℕ)). or_before noted (get names q)) (sym (get-entries notes q))

-- a note of another name stands somewhere among those that are in order
placed : (note : Name × Option ℕ) (notes : List (Name × Option ℕ)) → find name_cmp note.0 notes ≡ None → IsPermutation (put name_cmp note.0 note.1 notes) (note ∷ notes)
placed note [] none = IsPermutation-refl (note ∷ [])
placed note (first ∷ notes) none = by_first (placed note notes) (name_cmp note.0 first.0) none
  where
    by_first : (find name_cmp note.0 notes ≡ None → IsPermutation (put name_cmp note.0 note.1 notes) (note ∷ notes)) → (o : Ordering) → cond (is_eq o) (Some first.1) (find name_cmp note.0 notes) ≡ None → IsPermutation (before_or_behind o (note ∷ first ∷ notes) ((first.0, note.1) ∷ notes) (first ∷ put name_cmp note.0 note.1 notes)) (note ∷ first ∷ notes)
    by_first rest Less none = IsPermutation-refl (note ∷ first ∷ notes)
    by_first rest Equal none = absurd cc
    by_first rest Greater none =
        IsPermutation-trans (first ∷ put name_cmp note.0 note.1 notes) (first ∷ note ∷ notes) (note ∷ first ∷ notes)
        (IsPermutation-cons first (put name_cmp note.0 note.1 notes) (note ∷ notes) (rest none))
        (IsPermutation-middle (first ∷ []) note notes)

moved : (notes : List (Name × Option ℕ)) → IsDistinct same (keys_of notes) → IsPermutation (in_order notes) notes
moved [] differ = subst (λ (ns : List (Name × Option ℕ)). IsPermutation ns []) (sym (entries-empty name_cmp)) (IsPermutation-refl [])
moved (note ∷ notes) differ =
    let none : find name_cmp note.0 (in_order notes) ≡ None
    = sym (get-entries (from_entries notes) note.0) ∙ get-from_entries name_total notes note.0 ∙ unnoted note.0 notes (IsDistinct-head same note.0 (keys_of notes) differ) in
    subst (λ (ns : List (Name × Option ℕ)). IsPermutation ns (note ∷ notes)) (sym (entries-insert name_total (from_entries notes) note.0 note.1))
    (IsPermutation-trans (put name_cmp note.0 note.1 (in_order notes)) (note ∷ in_order notes) (note ∷ notes)
    (placed note (in_order notes) none)
    (IsPermutation-cons note (in_order notes) notes (moved notes (IsDistinct-tail same note.0 (keys_of notes) differ))))

-- notes of names that differ, as a table has them and in the order of their names
module _ (notes : List (Name × Option ℕ)) (bytes_differ : IsDistinct (pointwise nat_eq) (keys_of notes)) where
  differ : IsDistinct same (keys_of notes)
  differ = by_order (keys_of notes) bytes_differ

  -- laid one after the other they leave the same names
  pub laid-in_order : (names : FinMap name_cmp ℕ) → laid notes names ≡ laid (in_order notes) names
  laid-in_order names =
      same_map name_total name_exact (laid notes names) (laid (in_order notes) names) (λ q.
      get-laid notes differ names q
      ∙ ap (λ (noted : Option (Option ℕ)). or_before noted (get names q)) (sym (get-from_entries name_total notes q))
      ∙ sym (laid_is (from_entries notes) names q))

  pub laid_listing-in_order : (promised : ℕ) → laid_listing notes promised ≡ laid_listing (in_order notes) promised
  laid_listing-in_order promised = λ i listing. record {
    names = laid-in_order listing.names i;
    promised = listing.promised - promised;
  }

  -- they are the same notes
  in_order-moved : IsPermutation (in_order notes) notes
  in_order-moved = moved notes differ

  pub all-in_order : (P : Name × Option ℕ → Type 0) → AllByRecursion P (in_order notes) → AllByRecursion P notes
  all-in_order P all = recursion_from_All P notes (All-permutation P (in_order notes) notes in_order-moved (All-from_recursion P (in_order notes) all))

  pub count-in_order : (test : Name × Option ℕ → Bool) → count_by test notes ≡ count_by test (in_order notes)
  count-in_order test = sum_by-IsPermutation (λ note. cond (test note) 1 0) (in_order notes) notes in_order-moved
