-- Maps with other keys and values: what they give, how they change, and sums over their values.
use Rattle.std.proofs.Common.{◌≡◌, ℕ, ◌+◌, Bool, true, false, cond, not, T, ◌&&◌, List, [], ◌∷◌, map, length, Option, Some, None, is_some, sum_by, refl, sym, ap, ap₂, subst, ◌∙◌, arith}
use Rattle.std.specs.declared.cmp.Ordering.{Ordering}
use Rattle.std.specs.Ordering.{eq_by_cmp, is_eq, is_lt}
use Rattle.std.specs.Cmp.{IsTotalOrder, tied_itself}
use Rattle.std.specs.FinMap.Entries.{find, is_sorted, below_all, where_key, length_without}
use Rattle.std.proofs.lemmas.List.Sums.{sum_by-cons}
use Rattle.model.specs.FiniteMap.{FinMap, get, empty, insert, remove, retain_keys, entries, keys, values, from_entries, from_sorted, get-entries, get-from_entries, get-from_sorted, get-insert, get-remove, get-retain_keys, entries-empty, entries-from_sorted, entries_sorted, same_map, IsAntisymmetric}
use Rattle.model.specs.State.{mapped}
use Rattle.model.proofs.Laws.{tie, weight, sum-insert}
use Rattle.renaming_laws.specs.Renaming.{renamed_map, with_values}

-- two tests that hold alike
pub same_bool : (b c : Bool) → (b ≡ true → c ≡ true) → (c ≡ true → b ≡ true) → b ≡ c
same_bool true c h g = sym (h refl)
same_bool false true h g = g refl
same_bool false false h g = refl

both : (a b : Bool) → T (a && b) → T a × T b
both true b p = (tt, p)
both false b p = absurd p

not_there : {X : Type 0} (x : Option X) (n : ℕ) → cond (is_some x) 1 0 + n ≡ n → x ≡ None
not_there None n e = refl
not_there (Some x) n e = absurd (omega arith)

mapped-cond : {X Y : Type 0} (g : X → Y) (b : Bool) (x y : Option X) → mapped g (cond b x y) ≡ cond b (mapped g x) (mapped g y)
mapped-cond g true x y = refl
mapped-cond g false x y = refl

mapped_none : {X Y : Type 0} (g : X → Y) (x : Option X) → x ≡ None → mapped g x ≡ None
mapped_none g x e = ap (mapped g) e

module _ {K : Type 0} {R : K → K → Ordering} (o : IsTotalOrder R) (exact : IsAntisymmetric R) where
  same_keys : (x y : K) → eq_by_cmp R x y ≡ true → x ≡ y
  same_keys x y e = exact x y (tie (R x y) e)

  keys_tie : (x y : K) → x ≡ y → eq_by_cmp R x y ≡ true
  keys_tie x y e = ap (λ z. eq_by_cmp R x z) (sym e) ∙ ap is_eq (tied_itself o x)

  -- a key stands once
  head_once : {X : Type 0} (e : K × X) (es : List (K × X)) → T (is_sorted R (e ∷ es)) → find R e.0 es ≡ None
  head_once {X} e es s =
      let W : List (K × X) = where_key R (λ x. not (eq_by_cmp R e.0 x)) es in
      let fewer : 1 + length W ≡ 1 + length es = subst (λ r. cond (is_some (cond (is_eq r) (Some e.1) (find R e.0 es))) 1 0 + length (cond (not (is_eq r)) (e ∷ W) W) ≡ length (e ∷ es)) (tied_itself o e.0) (length_without R o e.0 (e ∷ es) s) ∙ omega arith in
      let more : cond (is_some (find R e.0 es)) 1 0 + length W ≡ length es = length_without R o e.0 es (both (below_all R e.0 es) (is_sorted R es) s).1 in
      not_there (find R e.0 es) (length es) (omega arith)

  module _ (f : K → K) (again : (k : K) → f (f k) ≡ k) where
    other_side : (x y : K) → eq_by_cmp R (f x) y ≡ eq_by_cmp R x (f y)
    other_side x y = same_bool _ _
        (λ e. keys_tie x (f y) (sym (again x) ∙ ap f (same_keys (f x) y e)))
        (λ e. keys_tie (f x) y (ap f (same_keys x (f y) e) ∙ again y))

    both_sides : (x y : K) → eq_by_cmp R (f x) (f y) ≡ eq_by_cmp R x y
    both_sides x y = other_side x (f y) ∙ ap (eq_by_cmp R x) (again y)

    module _ {X : Type 0} (g : X → X) where
      find_renamed : (q : K) (es : List (K × X)) → find R (f q) (map (λ e. (f e.0, g e.1)) es) ≡ mapped g (find R q es)
      find_renamed q [] = refl
      find_renamed q (e ∷ es) =
          ap₂ (λ b x. cond b (Some (g e.1)) x) (both_sides q e.0) (find_renamed q es) ∙ sym (mapped-cond g (eq_by_cmp R q e.0) (Some e.1) (find R q es))

      pub get_at : (m : FinMap R X) (q : K) → get (renamed_map f g m) (f q) ≡ mapped g (get m q)
      unfolding renamed_map
      get_at m q = get-from_entries o (map (λ e. (f e.0, g e.1)) (entries m)) (f q) ∙ find_renamed q (entries m) ∙ ap (mapped g) (sym (get-entries m q))

      pub get_renamed : (m : FinMap R X) (q : K) → get (renamed_map f g m) q ≡ mapped g (get m (f q))
      get_renamed m q = ap (get (renamed_map f g m)) (sym (again q)) ∙ get_at m (f q)

      pub renamed-empty : renamed_map {R = R} f g empty ≡ empty
      unfolding renamed_map
      renamed-empty = ap (λ es. from_entries (map (λ e. (f e.0, g e.1)) es)) (entries-empty R)

      pub renamed-insert : (m : FinMap R X) (k : K) (v : X) → renamed_map f g (insert m k v) ≡ insert (renamed_map f g m) (f k) (g v)
      renamed-insert m k v = same_map o exact _ _ (λ q.
          get_renamed (insert m k v) q ∙ ap (mapped g) (get-insert o m k v (f q)) ∙ mapped-cond g (eq_by_cmp R (f q) k) (Some v) (get m (f q))
          ∙ ap₂ (λ b x. cond b (Some (g v)) x) (other_side q k) (sym (get_renamed m q)) ∙ sym (get-insert o (renamed_map f g m) (f k) (g v) q))

      pub renamed-remove : (m : FinMap R X) (k : K) → renamed_map f g (remove m k) ≡ remove (renamed_map f g m) (f k)
      renamed-remove m k = same_map o exact _ _ (λ q.
          get_renamed (remove m k) q ∙ ap (mapped g) (get-remove o m k (f q)) ∙ mapped-cond g (eq_by_cmp R (f q) k) None (get m (f q))
          ∙ ap₂ (λ b x. cond b None x) (other_side q k) (sym (get_renamed m q)) ∙ sym (get-remove o (renamed_map f g m) (f k) q))

      retained : (m : FinMap R X) (p : K → Bool) (q : K) → get (retain_keys m p) q ≡ cond (p q) (get m q) None
      retained m p q = get-retain_keys m p q (λ x t. ap p (sym (exact q x t)))

      pub renamed-retain_keys : (m : FinMap R X) (p r : K → Bool) → ((k : K) → r (f k) ≡ p k) → renamed_map f g (retain_keys m p) ≡ retain_keys (renamed_map f g m) r
      renamed-retain_keys m p r alike = same_map o exact _ _ (λ q.
          get_renamed (retain_keys m p) q ∙ ap (mapped g) (retained m p (f q)) ∙ mapped-cond g (p (f q)) (get m (f q)) None
          ∙ ap₂ (λ b x. cond b x None) (sym (alike (f q)) ∙ ap r (again q)) (sym (get_renamed m q)) ∙ sym (retained (renamed_map f g m) r q))

      sum_from : (w : X → ℕ) (es : List (K × X)) → T (is_sorted R es) → sum_by w (values (from_entries {R = R} (map (λ e. (f e.0, g e.1)) es))) ≡ sum_by (λ x. w (g x)) (map (λ e. e.1) es)
      sum_from w [] s = ap (λ (es : List (K × X)). sum_by w (map (λ e. e.1) es)) (entries-empty R)
      sum_from w (e ∷ es) s =
          let rest : FinMap R X = from_entries (map (λ e. (f e.0, g e.1)) es) in
          let fresh : weight w (get rest (f e.0)) ≡ 0 = ap (weight w) (get-from_entries o (map (λ e. (f e.0, g e.1)) es) (f e.0) ∙ find_renamed e.0 es ∙ mapped_none g (find R e.0 es) (head_once e es s)) in
          let grown : sum_by w (values (insert rest (f e.0) (g e.1))) + weight w (get rest (f e.0)) ≡ sum_by w (values rest) + w (g e.1) = sum-insert o exact w rest (f e.0) (g e.1) in
          let tail : sum_by w (values rest) ≡ sum_by (λ x. w (g x)) (map (λ e. e.1) es) = sum_from w es (both (below_all R e.0 es) (is_sorted R es) s).1 in
          let whole : sum_by (λ x. w (g x)) (e.1 ∷ map (λ e. e.1) es) ≡ w (g e.1) + sum_by (λ x. w (g x)) (map (λ e. e.1) es) = sum_by-cons (λ x. w (g x)) e.1 (map (λ e. e.1) es) in
          omega arith

      -- A sum over the values does not depend on their order.
      pub sum-renamed : (w : X → ℕ) (m : FinMap R X) → sum_by w (values (renamed_map f g m)) ≡ sum_by (λ x. w (g x)) (values m)
      unfolding renamed_map
      sum-renamed w m = sum_from w (entries m) (entries_sorted m)

module _ {K X : Type 0} {R : K → K → Ordering} (o : IsTotalOrder R) (exact : IsAntisymmetric R) (g : X → X) where
  below_still : (k : K) (es : List (K × X)) → below_all R k (map (λ e. (e.0, g e.1)) es) ≡ below_all R k es
  below_still k [] = refl
  below_still k (e ∷ es) = ap (λ b. is_lt (R k e.0) && b) (below_still k es)

  sorted_still : (es : List (K × X)) → is_sorted R (map (λ e. (e.0, g e.1)) es) ≡ is_sorted R es
  sorted_still [] = refl
  sorted_still (e ∷ es) = ap₂ (λ a b. a && b) (below_still e.0 es) (sorted_still es)

  -- the entries of a map with other values alone
  pub entries-with_values : (m : FinMap R X) → entries (with_values g m) ≡ map (λ e. (e.0, g e.1)) (entries m)
  unfolding renamed_map
  entries-with_values m =
      let es : List (K × X) = map (λ e. (e.0, g e.1)) (entries m) in
      let sorted : T (is_sorted R es) = subst T (sym (sorted_still (entries m))) (entries_sorted m) in
      ap entries (same_map o exact (from_entries es) (from_sorted es) (λ q. get-from_entries o es q ∙ sym (get-from_sorted R es q sorted))) ∙ entries-from_sorted R es sorted

  values_changed : K × X → K × X
  values_changed e = (e.0, g e.1)

  keys_of : (es : List (K × X)) → map (λ (e : K × X). e.0) (map values_changed es) ≡ map (λ e. e.0) es
  unfolding values_changed
  keys_of [] = refl
  keys_of (e ∷ es) = ap (λ ks. e.0 ∷ ks) (keys_of es)

  pub keys-with_values : (m : FinMap R X) → keys (with_values g m) ≡ keys m
  unfolding values_changed
  keys-with_values m = ap (map (λ e. e.0)) (entries-with_values m) ∙ keys_of (entries m)
