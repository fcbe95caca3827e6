-- Sums over maps, what a changed map gives, and what holds of lists: for any map with a total order.
use Rattle.std.proofs.Common.{◌≡◌, ◌≢◌, ◌⊎◌, ℕ, ◌+◌, Bool, true, false, cond, List, [], ◌∷◌, map, Option, Some, None, sum_by, refl, sym, ap, ap₂, ◌∙◌, arith, ◌<◌, nat_cmp, inl, inr}
use Rattle.std.specs.declared.cmp.Ordering.{Ordering}
use Rattle.std.specs.Cmp.{IsTotalOrder}
use Rattle.std.specs.List.{AllByRecursion}
use Rattle.std.specs.FinMap.Entries.{find}
use Rattle.model.specs.FiniteMap.{FinMap, get, empty, insert, remove, retain_keys, entries, keys, values, get-entries, get-empty, get-retain_keys, len-entries, len-empty, nat_cmp-IsAntisymmetric}
use Rattle.std.proofs.lemmas.Bool.{cases_eq}
use Rattle.std.proofs.lemmas.List.Sums.{sum_by-cons}
use Rattle.model.proofs.Laws.{all_entries, get_same, get_other, nothing_left}
pub use Rattle.model.proofs.Laws.{removed_same, removed_other}

pub not_none : {A : Type 0} (x : A) → Some x ≡ None → ⊥
not_none x e = absurd cc

abbrev or_given : {A : Type 0} → A → Option A → A
or_given x (Some y) = y
or_given x None = x

pub some_same : {A : Type 0} (x y : A) → Some x ≡ Some y → x ≡ y
some_same x y e = ap (or_given x) e

pub true_is_false : true ≡ false → ⊥
true_is_false h = absurd cc

-- a test that counts
pub one_some : (b : Bool) → 0 < cond b 1 0 → b ≡ true
one_some true h = refl
one_some false h = absurd (omega arith)

pub all-mapped : {A : Type 0} {P Q : A → Type 0} (xs : List A) → ((x : A) → P x → Q x) → AllByRecursion P xs → AllByRecursion Q xs
all-mapped [] f h = tt
all-mapped (x ∷ xs) f h = (f x h.0, all-mapped xs f h.1)

pub maps_alike : {A B : Type 0} (f g : A → B) (xs : List A) → AllByRecursion (λ x. f x ≡ g x) xs → map f xs ≡ map g xs
maps_alike f g [] h = refl
maps_alike {B = B} f g (x ∷ xs) h = ap₂ (λ (y : B) (ys : List B). y ∷ ys) h.0 (maps_alike f g xs h.1)

none_left : {A B : Type 0} (f : A → B) (xs : List A) → map f xs ≡ [] → xs ≡ []
none_left f [] e = refl
none_left f (x ∷ xs) e = absurd cc

module _ {K X : Type 0} {R : K → K → Ordering} (o : IsTotalOrder R) where
  sums_alike : (w v : X → ℕ) (es : List (K × X)) → AllByRecursion (λ (e : K × X). w e.1 ≡ v e.1) es → sum_by w (map (λ e. e.1) es) ≡ sum_by v (map (λ e. e.1) es)
  sums_alike w v [] h = refl
  sums_alike w v (e ∷ es) h =
      sum_by-cons w e.1 (map (λ e. e.1) es) ∙ ap₂ (λ (x : ℕ) (y : ℕ). x + y) h.0 (sums_alike w v es h.1) ∙ sym (sum_by-cons v e.1 (map (λ e. e.1) es))

  -- two sums whose parts are alike
  pub sum-alike : (w v : X → ℕ) (m : FinMap R X) → ((q : K) (x : X) → get m q ≡ Some x → w x ≡ v x) → sum_by w (values m) ≡ sum_by v (values m)
  sum-alike w v m each = sums_alike w v (entries m) (all_entries o (λ k x. w x ≡ v x) m each)

  zeros : (w : X → ℕ) (es : List (K × X)) → AllByRecursion (λ (e : K × X). w e.1 ≡ 0) es → sum_by w (map (λ e. e.1) es) ≡ 0
  zeros w [] h = refl
  zeros w (e ∷ es) h = sum_by-cons w e.1 (map (λ e. e.1) es) ∙ ap₂ (λ (x : ℕ) (y : ℕ). x + y) h.0 (zeros w es h.1)

  -- a sum with no parts
  pub sum-zero : (w : X → ℕ) (m : FinMap R X) → ((q : K) (x : X) → get m q ≡ Some x → w x ≡ 0) → sum_by w (values m) ≡ 0
  sum-zero w m each = zeros w (entries m) (all_entries o (λ k x. w x ≡ 0) m each)

  pub none_by_keys : (m : FinMap R X) → keys m ≡ [] → (k : K) → get m k ≡ None
  none_by_keys m e k = get-entries m k ∙ ap (find R k) (none_left (λ e. e.0) (entries m) e)

-- a part of a sum that is not nothing
pub record Part {K X : Type 0} (R : K → K → Ordering) (w : X → ℕ) (m : FinMap R X) : Type 0 where
  pub key : K
  pub value : X
  pub gives : get m key ≡ Some value
  pub counts : 0 < w value

module _ {K X : Type 0} {R : K → K → Ordering} (o : IsTotalOrder R) where
  among : (w : X → ℕ) (m : FinMap R X) (es : List (K × X)) → AllByRecursion (λ (e : K × X). get m e.0 ≡ Some e.1) es → 0 < sum_by w (map (λ e. e.1) es) → Part R w m
  among w m [] h some = absurd (omega arith)
  among w m (e ∷ es) h some =
      let sum : sum_by w (map (λ e. e.1) (e ∷ es)) ≡ w e.1 + sum_by w (map (λ e. e.1) es) = sum_by-cons w e.1 (map (λ e. e.1) es) in
      elim (cases_eq (w e.1) 0) [
        | inl none ↦ among w m es h.1 (omega arith)
        | inr here ↦ record { key = e.0; value = e.1; gives = h.0; counts = omega arith }
      ]

  pub some_part : (w : X → ℕ) (m : FinMap R X) → 0 < sum_by w (values m) → Part R w m
  some_part w m some = among w m (entries m) (all_entries o (λ k x. get m k ≡ Some x) m (λ k x is. is)) some

pub sum-empty : {K X : Type 0} (R : K → K → Ordering) (w : X → ℕ) → sum_by w (values (empty {X = X} {R = R})) ≡ 0
sum-empty {K} {X} R w = ap (λ es. sum_by w (map (λ e. e.1) es)) (nothing_left (entries (empty {X = X} {R = R})) (sym (len-entries (empty {X = X} {R = R})) ∙ len-empty R X))

-- maps with numbers as keys: what is given after a change was given before, or is the new value
pub from_insert : {X : Type 0} (m : FinMap nat_cmp X) (n q : ℕ) (v x : X) → get (insert m n v) q ≡ Some x → ((q ≡ n) × (v ≡ x)) ⊎ ((q ≢ n) × (get m q ≡ Some x))
from_insert m n q v x e =
    elim (cases_eq q n) [
      | inl is ↦ inl (is, some_same v x (sym (get_same m n v) ∙ ap (get (insert m n v)) (sym is) ∙ e))
      | inr away ↦ inr (away, sym (get_other m n q v away) ∙ e)
    ]

-- what was there stays when a key is set
pub stays_inserted : {X : Type 0} (m : FinMap nat_cmp X) (n : ℕ) (v : X) (q : ℕ) → get m q ≢ None → get (insert m n v) q ≢ None
stays_inserted m n v q there none = elim (cases_eq q n) [
  | inl same ↦ not_none v (sym (get_same m n v) ∙ ap (get (insert m n v)) (sym same) ∙ none)
  | inr away ↦ there (sym (get_other m n q v away) ∙ none)
]

pub from_remove : {X : Type 0} (m : FinMap nat_cmp X) (n q : ℕ) (x : X) → get (remove m n) q ≡ Some x → (q ≢ n) × (get m q ≡ Some x)
from_remove m n q x e =
    elim (cases_eq q n) [
      | inl is ↦ absurd (not_none x (sym e ∙ ap (get (remove m n)) is ∙ removed_same m n))
      | inr away ↦ (away, sym (removed_other m n q away) ∙ e)
    ]

pub get_retained : {X : Type 0} (m : FinMap nat_cmp X) (p : ℕ → Bool) (n : ℕ) → get (retain_keys m p) n ≡ cond (p n) (get m n) None
get_retained m p n = get-retain_keys m p n (λ x t. ap p (sym (nat_cmp-IsAntisymmetric n x t)))

-- what is retained passes the test, and was there
pub retained_some : {X : Type 0} (m : FinMap nat_cmp X) (p : ℕ → Bool) (n : ℕ) (v : X) → get (retain_keys m p) n ≡ Some v → (p n ≡ true) × (get m n ≡ Some v)
retained_some {X} m p n v e = by_test (p n) refl (sym (get_retained m p n) ∙ e)
  where
    by_test : (b : Bool) → p n ≡ b → cond b (get m n) None ≡ Some v → (p n ≡ true) × (get m n ≡ Some v)
    by_test true is e = (is, e)
    by_test false is e = absurd cc

pub retained_none : {X : Type 0} (m : FinMap nat_cmp X) (p : ℕ → Bool) (n : ℕ) → get m n ≡ None → get (retain_keys m p) n ≡ None
retained_none {X} m p n e = get_retained m p n ∙ ap (λ o. cond (p n) o None) e ∙ within (p n)
  where
    within : (b : Bool) → ◌≡◌ {A = Option X} (cond b None None) None
    within true = refl
    within false = refl

pub empty_gives : {K X : Type 0} (R : K → K → Ordering) (q : K) (x : X) → get {R = R} empty q ≡ Some x → ⊥
empty_gives R q x e = not_none x (sym e ∙ get-empty R q)
