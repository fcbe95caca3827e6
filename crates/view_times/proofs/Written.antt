-- What a map gives behind a change of one of its entries.
use Rattle.std.proofs.Common.{◌≡◌, ◌≢◌, ℕ, ◌==◌, Bor, List, Option, Some, None, cond, nat_eq, option_copied, sym, ap, ◌∙◌, true, false, is_some, true≢false}
use Rattle.std.specs.Cmp.{eq_by_cmp_equiv, nat_cmp_total, nat_eq_equiv, unsigned_ties}
use Rattle.std.specs.Map.{lookup}
use Rattle.std.specs.Ordering.{eq_by_cmp, nat_cmp}
use Rattle.model.specs.FiniteMap as finite
use Rattle.model.proofs.Laws.{get_at}
use Rattle.view_times.specs.Rows.{Rows}

-- the order's test is the test of numbers
tied : (number q : ℕ) → eq_by_cmp nat_cmp q number ≡ (number == q)
tied number q = sym (unsigned_ties number q ∙ (eq_by_cmp_equiv nat_cmp_total).symm number q)

-- numbers are tested either way round
pub turned : (number q : ℕ) → nat_eq q number ≡ (number == q)
turned number q = nat_eq_equiv.symm q number

-- the same table has the same map, and the same room
module _ {X : Type 0} {r s : Rows X} (same : r ≡ s) where
  pub same_rows : r.rows ≡ s.rows
  same_rows = ap (λ (t : Rows X). t.rows) same

  pub same_room : r.room ≡ s.room
  same_room = ap (λ (t : Rows X). t.room) same

  pub same_get : (number : ℕ) → finite.get r.rows number ≡ finite.get s.rows number
  same_get number = ap (λ (t : Rows X). finite.get t.rows number) same

  pub same_insert : (number : ℕ) (row : X) → finite.insert r.rows number row ≡ finite.insert s.rows number row
  same_insert number row = ap (λ (t : Rows X). finite.insert t.rows number row) same

  pub same_remove : (number : ℕ) → finite.remove r.rows number ≡ finite.remove s.rows number
  same_remove number = ap (λ (t : Rows X). finite.remove t.rows number) same

module _ {X : Type 0} where
  -- what the map of these entries gives
  pub found : (es : List (ℕ × X)) (q : ℕ) → finite.get {R = nat_cmp} (finite.from_entries es) q ≡ lookup (nat_eq q) es
  found es q = get_at nat_cmp_total finite.nat_cmp-IsAntisymmetric nat_eq unsigned_ties es q

  -- entries that give something else at one number
  pub written : (number : ℕ) (now : X) (es fs : List (ℕ × X)) → ((q : ℕ) → lookup (nat_eq q) fs ≡ cond (nat_eq number q) (Some now) (lookup (nat_eq q) es)) → (q : ℕ) → finite.get {R = nat_cmp} (finite.from_entries fs) q ≡ cond (number == q) (Some now) (finite.get {R = nat_cmp} (finite.from_entries es) q)
  written number now es fs others q = found fs q ∙ others q ∙ ap (cond (number == q) (Some now)) (sym (found es q))

  -- a map with one more row, and one without it
  pub inserted_at : (m : finite.FinMap nat_cmp X) (number : ℕ) (now : X) (q : ℕ) → finite.get (finite.insert m number now) q ≡ cond (number == q) (Some now) (finite.get m q)
  inserted_at m number now q = finite.get-insert nat_cmp_total m number now q ∙ ap (λ b. cond b (Some now) (finite.get m q)) (tied number q)

  pub removed_at : (m : finite.FinMap nat_cmp X) (number q : ℕ) → finite.get (finite.remove m number) q ≡ cond (number == q) None (finite.get m q)
  removed_at m number q = finite.get-remove nat_cmp_total m number q ∙ ap (λ b. cond b None (finite.get m q)) (tied number q)

-- what was found is there, and what was not found is not
pub is_there : {X : Type 0} (o : Option (Bor X)) (kept : Option X) → option_copied o ≡ kept → is_some o ≡ true → kept ≢ None
is_there (Some x) kept copied some = λ none. some_none x.now (copied ∙ none)
  where
    some_none : {X : Type 0} (x : X) → Some x ≡ None → ⊥
    some_none x e = absurd cc
is_there None kept copied some = absurd (true≢false (sym some))

pub is_absent : {X : Type 0} (o : Option (Bor X)) (kept : Option X) → option_copied o ≡ kept → is_some o ≡ false → kept ≡ None
is_absent (Some x) kept copied none = absurd (true≢false none)
is_absent None kept copied none = sym copied
