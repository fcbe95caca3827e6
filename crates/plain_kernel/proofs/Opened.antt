-- Counts of openings, after a change of one description.
use Rattle.std.proofs.Common.{◌≡◌, ℕ, ◌+◌, ◌-◌, ◌==◌, cond, List, map, Option, Some, None, nat_cmp, refl, sym, ap, ◌∙◌, arith}
use Rattle.std.specs.List.{count_by}
use Rattle.std.specs.Cmp.{nat_cmp_total}
use Rattle.model.specs.FiniteMap.{FinMap, get, empty, insert, remove, entries-empty, nat_cmp-IsAntisymmetric}
use Rattle.model.specs.State.{Description}
use Rattle.model.specs.Changes.{at_offset}
use Rattle.model.proofs.Laws.{weight, sum-insert, sum-remove}
use Rattle.plain_kernel.specs.Counts.{AreOpened, count_at, opened_by_all, opened_once}
use Rattle.plain_kernel.proofs.Linked.{nothing_at}

abbrev opens : ℕ → Description → ℕ
opens n d = cond (d.inode == n) 1 0

once : (n : ℕ) (o : Option Description) → weight (opens n) o ≡ opened_once n o
once n None = refl
once n (Some d) = refl

module _ (m : FinMap nat_cmp Description) (k n : ℕ) where
  opened-set : (v : Description) → opened_by_all (insert m k v) n + opened_once n (get m k) ≡ opened_by_all m n + opens n v
  opened-set v = ap (λ w. opened_by_all (insert m k v) n + w) (sym (once n (get m k))) ∙ sum-insert nat_cmp_total nat_cmp-IsAntisymmetric (opens n) m k v

  opened-gone : opened_by_all (remove m k) n + opened_once n (get m k) ≡ opened_by_all m n
  opened-gone =
      let parts : weight (opens n) (get m k) + opened_by_all (remove m k) n ≡ opened_by_all m n = sum-remove nat_cmp_total nat_cmp-IsAntisymmetric (opens n) m k in
      let same : weight (opens n) (get m k) ≡ opened_once n (get m k) = once n (get m k) in
      omega arith

-- the counts go with the descriptions: `c` is of those before, `d` of those after
module _ (m : FinMap nat_cmp Description) (c d : FinMap nat_cmp ℕ) (counted : AreOpened m c) (k : ℕ) where
  -- a description comes, perhaps in the place of another
  pub counted_opened : (mid : FinMap nat_cmp ℕ) (v : Description) → ((n : ℕ) → count_at mid n ≡ count_at c n + cond (v.inode == n) 1 0)
      → ((n : ℕ) → count_at d n ≡ count_at mid n - opened_once n (get m k)) → AreOpened (insert m k v) d
  counted_opened mid v more less = λ n. omega (arith, counted n, more n, less n, opened-set m k n v)

  pub counted_closed : ((n : ℕ) → count_at d n ≡ count_at c n - opened_once n (get m k)) → AreOpened (remove m k) d
  counted_closed less = λ n. omega (arith, counted n, less n, opened-gone m k n)

  -- one came, and went again
  pub counted_back : (mid : FinMap nat_cmp ℕ) (v : ℕ) → ((n : ℕ) → count_at mid n ≡ count_at c n + cond (v == n) 1 0)
      → ((n : ℕ) → count_at d n ≡ count_at mid n - cond (v == n) 1 0) → AreOpened m d
  counted_back mid v more less = λ n. omega (arith, counted n, more n, less n)

  -- another offset
  pub counted_moved : (place : ℕ) (old : Description) → Some old ≡ get m k → AreOpened (insert m k (at_offset place old)) c
  counted_moved place old is = λ n.
      let here : opens n old ≡ opened_once n (get m k) = ap (opened_once n) is in
      omega (arith, counted n, opened-set m k n (at_offset place old), here)

pub nothing_opened : (m : FinMap nat_cmp Description) (c : FinMap nat_cmp ℕ) → m ≡ empty → c ≡ empty → AreOpened m c
nothing_opened m c bare none = λ n.
    nothing_at c n none ∙ sym (ap (λ x. opened_by_all x n) bare ∙ ap (λ (es : List (ℕ × Description)). count_by (λ d. d.inode == n) (map (λ e. e.1) es)) (entries-empty nat_cmp))

-- the same descriptions are as often open
pub opened_as : (m last : FinMap nat_cmp Description) (c : FinMap nat_cmp ℕ) → last ≡ m → AreOpened m c → AreOpened last c
opened_as m last c same counted = λ n. counted n ∙ ap (λ x. opened_by_all x n) (sym same)
