-- What stands at each key of a map after one was set, removed or put back changed.
use Rattle.std.proofs.Common.{◌≡◌, ℕ, Bool, true, false, cond, ◌==◌, Option, Some, None, nat_cmp, refl, sym, ap, ◌∙◌, eqb-true, eq-eqb}
use Rattle.std.specs.Prelude.{if◌then◌else◌}
use Rattle.std.specs.Ordering.{eq_by_cmp, is_eq}
use Rattle.std.specs.Cmp.{nat_cmp_total, tied_itself}
use Rattle.std.proofs.lemmas.Bool.{eqb-false}
use Rattle.model.specs.FiniteMap.{FinMap, get, get-insert, get-remove, insert, remove}
use Rattle.model.proofs.Laws.{apart}

-- the test of keys is that of numbers
pub test_is : (q k : ℕ) → eq_by_cmp nat_cmp q k ≡ (q == k)
test_is q k = by (q == k) refl where
  by : (b : Bool) → (q == k) ≡ b → eq_by_cmp nat_cmp q k ≡ (q == k)
  by true e = ap (eq_by_cmp nat_cmp q) (sym (eqb-true q k e)) ∙ ap is_eq (tied_itself nat_cmp_total q) ∙ sym e
  by false e = apart q k (eqb-false q k e) ∙ sym e

module _ {X : Type 0} where
  -- a key that is set
  pub at_set : (m new : FinMap nat_cmp X) (k position : ℕ) (t : X) → position ≡ k → new ≡ insert m position t → (q : ℕ) → get new q ≡ (if q == k then Some t else get m q)
  at_set m new k position t same is q =
      ap (λ n. get n q) is ∙ get-insert nat_cmp_total m position t q
      ∙ ap (λ p. cond (eq_by_cmp nat_cmp q p) (Some t) (get m q)) same ∙ ap (λ b. cond b (Some t) (get m q)) (test_is q k)

  -- a key that is removed
  pub at_removed : (m new : FinMap nat_cmp X) (k position : ℕ) → position ≡ k → new ≡ remove m position → (q : ℕ) → get new q ≡ (if q == k then None else get m q)
  at_removed m new k position same is q =
      ap (λ n. get n q) is ∙ get-remove nat_cmp_total m position q
      ∙ ap (λ p. cond (eq_by_cmp nat_cmp q p) None (get m q)) same ∙ ap (λ b. cond b None (get m q)) (test_is q k)

  pub gone : (m new : FinMap nat_cmp X) (k position : ℕ) → position ≡ k → new ≡ remove m position → get new k ≡ None
  gone m new k position same is = at_removed m new k position same is k ∙ ap (λ b. cond b None (get m k)) (eq-eqb k k refl)

  -- nothing was there, and nothing is
  pub at_none : (m : FinMap nat_cmp X) (k : ℕ) → get m k ≡ None → (q : ℕ) → get m q ≡ (if q == k then None else get m q)
  at_none m k none q = by (q == k) refl where
    by : (b : Bool) → (q == k) ≡ b → get m q ≡ (if b then None else get m q)
    by true e = ap (get m) (eqb-true q k e) ∙ none
    by false e = refl

  -- what was taken out is put back changed
  pub put_back : (f : Option X → Option X) (m left new : FinMap nat_cmp X) (k position : ℕ) (o r : Option X)
      → position ≡ k → left ≡ remove m position → o ≡ get m position → r ≡ f o
      → ((q : ℕ) → get new q ≡ (if q == k then r else get left q))
      → (q : ℕ) → get new q ≡ (if q == k then f (get m q) else get m q)
  put_back f m left new k position o r same is was made put q = put q ∙ by (q == k) refl where
    by : (b : Bool) → (q == k) ≡ b → (if b then r else get left q) ≡ (if b then f (get m q) else get m q)
    by true e = made ∙ ap f (was ∙ ap (get m) (same ∙ sym (eqb-true q k e)))
    by false e = at_removed m left k position same is q ∙ ap (λ b. if b then None else get m q) e
