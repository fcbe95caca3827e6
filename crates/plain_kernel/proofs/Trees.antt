-- The map that the entries of a tree make.
use Rattle.std.proofs.Common.{◌≡◌, ◌↔◌, Bool, true, false, IsTrue, cond, List, [], ◌∷◌, length, Option, Some, None, MatchOption, refl, sym, ap, ◌∙◌, arith}
use Rattle.std.proofs.lemmas.Map.Keys.{sorted_head, sorted_tail}
use Rattle.std.specs.List.{AllByRecursion}
use Rattle.std.specs.List.Sorted.{IsStrictlySortedBy}
use Rattle.std.specs.Map.{lookup, keys_of}
use Rattle.std.specs.Ordering.{eq_by_cmp}
use Rattle.std.specs.declared.cmp.Ordering.{Ordering}
use Rattle.std.specs.declared.cmp.Ordering.TheVariants.{Less}
use Rattle.std.specs.Cmp.{IsTotalOrder, eq_by_cmp_equiv}
use Rattle.std.specs.FinMap.Entries.{by_order, find, put}
use Rattle.model.specs.FiniteMap as finite
use Rattle.model.specs.Paths.{is_empty}

module _ {K X : Type 0} {R : K → K → Ordering} (total : IsTotalOrder R) where
  find-lookup : (es : List (K × X)) (q : K) → find R q es ≡ lookup (eq_by_cmp R q) es
  find-lookup [] q = refl
  find-lookup (e ∷ es) q = ap (cond (eq_by_cmp R q e.0) (Some e.1)) (find-lookup es q)

  -- what the map gives
  pub get_at : (es : List (K × X)) (q : K) → finite.get (finite.from_entries {R = R} es) q ≡ lookup (eq_by_cmp R q) es
  get_at es q = finite.get-from_entries total es q ∙ find-lookup es q

  first : (e : K × X) (es : List (K × X)) → AllByRecursion (λ k. R e.0 k ≡ Less) (keys_of es) → put R e.0 e.1 es ≡ e ∷ es
  first e [] h = refl
  first e (f ∷ fs) h = ap (λ o. by_order o (e ∷ f ∷ fs) ((f.0, e.1) ∷ fs) (f ∷ put R e.0 e.1 fs)) h.0

  -- entries in order are those of their map
  pub entries_made : (es : List (K × X)) → IsStrictlySortedBy R (keys_of es) → finite.entries (finite.from_entries {R = R} es) ≡ es
  entries_made [] h = finite.entries-empty R
  entries_made (e ∷ es) h =
      finite.entries-insert total (finite.from_entries es) e.0 e.1
      ∙ ap (put R e.0 e.1) (entries_made es (sorted_tail R e.0 (keys_of es) h))
      ∙ first e es (sorted_head R e.0 (keys_of es) h)

  module _ (exact : finite.IsAntisymmetric R) (es fs : List (K × X)) (k : K) where
    -- entries that give something else at one key
    pub inserted : (v : X) → ((q : K) → lookup (eq_by_cmp R q) fs ≡ cond (eq_by_cmp R k q) (Some v) (lookup (eq_by_cmp R q) es)) → finite.from_entries {R = R} fs ≡ finite.insert (finite.from_entries es) k v
    inserted v h =
        finite.same_map total exact (finite.from_entries fs) (finite.insert (finite.from_entries es) k v) (λ q.
        get_at fs q ∙ h q ∙ ap (λ o. cond (eq_by_cmp R k q) (Some v) o) (sym (get_at es q))
        ∙ ap (λ b. cond b (Some v) (finite.get (finite.from_entries {R = R} es) q)) ((eq_by_cmp_equiv total).symm k q)
        ∙ sym (finite.get-insert total (finite.from_entries es) k v q))

    -- or nothing there
    pub removed : ((q : K) → lookup (eq_by_cmp R q) fs ≡ cond (eq_by_cmp R k q) None (lookup (eq_by_cmp R q) es)) → finite.from_entries {R = R} fs ≡ finite.remove (finite.from_entries es) k
    removed h =
        finite.same_map total exact (finite.from_entries fs) (finite.remove (finite.from_entries es) k) (λ q.
        get_at fs q ∙ h q ∙ ap (λ o. cond (eq_by_cmp R k q) None o) (sym (get_at es q))
        ∙ ap (λ b. cond b None (finite.get (finite.from_entries {R = R} es) q)) ((eq_by_cmp_equiv total).symm k q)
        ∙ sym (finite.get-remove total (finite.from_entries es) k q))

-- a tree that says so has no keys
pub none_there : {K X : Type 0} (b : Bool) (es : List (K × X)) → (IsTrue b ↔ (length es ≡ 0)) → b ≡ is_empty (keys_of es)
none_there true [] h = refl
none_there true (e ∷ es) h = absurd (let none : length (e ∷ es) ≡ 0 = h.0 refl in omega arith)
none_there false [] h = absurd (let none : false ≡ true = h.1 refl in cc)
none_there false (e ∷ es) h = refl

-- what a swap gives
pub swapped_some : {A : Type 0} (P : Type 0) (Q : A → Type 0) (r : Option A) (x : A) → r ≡ Some x → ((y : A) → Q y) → MatchOption r P Q
swapped_some P Q None x e q = absurd cc
swapped_some P Q (Some y) x e q = q y

pub swapped_none : {A : Type 0} (P : Type 0) (Q : A → Type 0) (r : Option A) → r ≡ None → P → MatchOption r P Q
swapped_none P Q None e p = p
swapped_none P Q (Some y) e p = absurd cc
