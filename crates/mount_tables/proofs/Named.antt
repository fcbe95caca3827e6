-- What is known of the numbers to which names lead, when a name comes or goes.
use Rattle.std.proofs.Common.{◌≡◌, ℕ, Bool, true, false, cond, List, [], ◌∷◌, Option, Some, None, refl, sym, ap, subst, ◌∙◌}
use Rattle.std.specs.BTreeMap.{BTreeMap}
use Rattle.std.specs.Cmp.{tied_itself}
use Rattle.std.specs.Cmp.Lexicographic.{slice_cmp}
use Rattle.std.specs.Map.{KeepsOthers, lookup}
use Rattle.std.specs.Ordering.{eq_by_cmp, is_eq, nat_cmp}
use Rattle.std.specs.declared.vec.Vec.{Vec}
use Rattle.std.proofs.lemmas.Bool.{false_from_ne_true}
use Rattle.std.proofs.lemmas.Cmp.{nat_list_cmp_total}
use Rattle.model.specs.FiniteMap as map
use Rattle.model.proofs.Laws.{get_at, inserted, name_exact, removed, tie}
use Rattle.mount_tables.specs.Names.{by_bytes, numbers_in}

abbrev R : List ℕ → List ℕ → Bool
R q k = is_eq (slice_cmp nat_cmp q k)

same_name : (p q : List ℕ) → R p q ≡ true → p ≡ q
same_name p q e = name_exact p q (tie (slice_cmp nat_cmp p q) e)

differs : (p q : List ℕ) → R p q ≡ false → R q p ≡ true → ⊥
differs p q differ e =
    let same : p ≡ q = sym (same_name q p e) in
    let tied : R p p ≡ false = subst (λ (b : List ℕ). R p b ≡ false) (sym same) differ in
    let itself : R p p ≡ true = ap is_eq (tied_itself nat_list_cmp_total p) in
    absurd cc

module _ {A : Type 0} where
  abbrev query : List ℕ → Vec ℕ A → Bool
  query q k = R q k.items

  abbrev alike : Vec ℕ A → Vec ℕ A → Bool
  alike j k = R j.items k.items

  found : (q : List ℕ) (es : List (Vec ℕ A × ℕ)) → lookup (R q) (by_bytes es) ≡ lookup (query q) es
  found q [] = refl
  found q (e ∷ es) = ap (cond (R q e.0.items) (Some e.1)) (found q es)

  pub name_gives : (t : BTreeMap (Vec ℕ A) ℕ) (q : List ℕ) → map.get (numbers_in t) q ≡ lookup (query q) t.entries
  name_gives t q = get_at nat_list_cmp_total name_exact (eq_by_cmp (slice_cmp nat_cmp)) (λ x y. refl) (by_bytes t.entries) q ∙ found q t.entries

  one_key : (q : List ℕ) (x y : Vec ℕ A) → query q x ≡ true → query q y ≡ alike x y
  one_key q x y e = ap (λ p. R p y.items) (same_name q x.items e)

  apart : (p q : List ℕ) → R p q ≡ false → (k : Vec ℕ A) → query p k ≡ true → query q k ≡ false
  apart p q differ k here =
      ap (λ b. R q b) (sym (same_name p k.items here)) ∙ false_from_ne_true (R q p) (differs p q differ)

  at_name : (b : Bool) (es fs : List (Vec ℕ A × ℕ)) (name q : List ℕ) (w : Option ℕ) → R name q ≡ b → lookup (query name) fs ≡ w → KeepsOthers alike (query name) es fs → lookup (query q) fs ≡ cond b w (lookup (query q) es)
  unfolding KeepsOthers
  at_name true es fs name q w e is others = ap (λ p. lookup (query p) fs) (sym (same_name name q e)) ∙ is
  at_name false es fs name q w e is others = others (query q) (one_key q) (apart name q e)

  pub names_written : (es fs : List (Vec ℕ A × ℕ)) (name : List ℕ) (w : Option ℕ) → lookup (query name) fs ≡ w → KeepsOthers alike (query name) es fs → (q : List ℕ) → lookup (R q) (by_bytes fs) ≡ cond (R name q) w (lookup (R q) (by_bytes es))
  names_written es fs name w is others q = found q fs ∙ at_name (R name q) es fs name q w refl is others ∙ ap (cond (R name q) w) (sym (found q es))

  pub name_inserted : (s t : BTreeMap (Vec ℕ A) ℕ) (name : List ℕ) (number : ℕ) → lookup (query name) t.entries ≡ Some number → KeepsOthers alike (query name) s.entries t.entries → numbers_in t ≡ map.insert (numbers_in s) name number
  name_inserted s t name number is others = inserted nat_list_cmp_total name_exact (eq_by_cmp (slice_cmp nat_cmp)) (λ x y. refl) (by_bytes s.entries) (by_bytes t.entries) name number (names_written s.entries t.entries name (Some number) is others)

  pub name_removed : (s t : BTreeMap (Vec ℕ A) ℕ) (name : List ℕ) → lookup (query name) t.entries ≡ None → KeepsOthers alike (query name) s.entries t.entries → numbers_in t ≡ map.remove (numbers_in s) name
  name_removed s t name is others = removed nat_list_cmp_total name_exact (eq_by_cmp (slice_cmp nat_cmp)) (λ x y. refl) (by_bytes s.entries) (by_bytes t.entries) name (names_written s.entries t.entries name None is others)

  -- other entries, but the same names
  pub names_empty : (t : BTreeMap (Vec ℕ A) ℕ) → t.entries ≡ [] → numbers_in t ≡ map.empty
  names_empty t none = ap (λ es. map.from_entries (by_bytes es)) none

  pub names_stay : (s t : BTreeMap (Vec ℕ A) ℕ) → t.entries ≡ s.entries → numbers_in t ≡ numbers_in s
  names_stay s t same = ap (λ es. map.from_entries (by_bytes es)) same
