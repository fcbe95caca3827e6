-- The list mode by the counts is the list mode by the marks.
use Rattle.std.proofs.Common.{◌≡◌, ◌≢◌, ℕ, ◌+◌, ◌<◌, ◌≤◌, refl, sym, ◌∙◌, ap, true, false, Bool, arith}
use Rattle.std.specs.Prelude.{◌&&◌, ◌==◌, not, nat_lt}
use Rattle.std.proofs.lemmas.Bool.{eq-eqb, ne_eqb}
use Rattle.std.proofs.lemmas.Bool.Decides.{nat_tests}
use Rattle.std.specs.BTreeMap as tree
use Rattle.model.specs.Moments.{count_below}
use Rattle.model.specs.Modes.{any_below}
use Rattle.list_modes.specs.Holding.{Held, Table, nothing, held_of, IsBelow, mode_in, others_write}
use Rattle.list_modes.specs.Counted.{Counts, counts_in, pids, one, mode_by, IsCounted}
use Rattle.list_modes.proofs.Counting.{count_changed, any_counted, any_same}

-- a mark is held below any bound where it is counted
one_mark : (table : Table) (d n : ℕ) (mark : Held → Bool) → mark nothing ≡ false → ((p e : ℕ) → pids ≤ p → held_of table p e ≡ nothing) → IsBelow n table → any_below (λ q. mark (held_of table q d)) n ≡ nat_lt 0 (count_below (λ q. mark (held_of table q d)) pids)
one_mark table d n mark none beyond below =
    any_same (λ q. mark (held_of table q d)) n pids (λ q far. ap mark (below q d far) ∙ none) (λ q far. ap mark (beyond q d far) ∙ none) ∙ any_counted (λ q. mark (held_of table q d)) pids

three : (a b c x y z : Bool) → a ≡ x → b ≡ y → c ≡ z → mode_by a b c ≡ mode_by x y z
three a b c x y z f g h = λ i. mode_by (f i) (g i) (h i)

pub mode_counted : (table : Table) (counts : tree.BTreeMap ℕ Counts) (c : Counts) (d n : ℕ) → IsCounted table counts → c ≡ counts_in counts d → IsBelow n table → mode_in table d n ≡ mode_by (nat_lt 0 c.both) (nat_lt 0 c.writers) (nat_lt 0 c.readers)
mode_counted table counts c d n was is below = three _ _ _ _ _ _
    (one_mark table d n (λ h. h.names_read && h.entry_written) refl was.beyond below ∙ ap (λ x. nat_lt 0 x.both) (sym (is ∙ was.each d)))
    (one_mark table d n (λ h. h.entry_written) refl was.beyond below ∙ ap (λ x. nat_lt 0 x.writers) (sym (is ∙ was.each d)))
    (one_mark table d n (λ h. h.names_read) refl was.beyond below ∙ ap (λ x. nat_lt 0 x.readers) (sym (is ∙ was.each d)))

-- one more on both sides
less_by : (k m : ℕ) → nat_lt k (m + k) ≡ nat_lt 0 m
less_by k m = grind (arith, nat_tests)

-- others write where the count is larger than what this process adds to it
pub others_counted : (table : Table) (counts : tree.BTreeMap ℕ Counts) (d pid n : ℕ) → pid < pids → IsCounted table counts → IsBelow n table → others_write table d pid n ≡ nat_lt (one (held_of table pid d).entry_written) (counts_in counts d).writers
others_counted table counts d pid n small was below =
    any_same other n pids (λ q far. none q (ap (λ (h : Held). h.entry_written) (below q d far))) (λ q far. none q (ap (λ (h : Held). h.entry_written) (was.beyond q d far)))
    ∙ any_counted other pids
    ∙ sym (less_by (one (writes pid)) (count_below other pids))
    ∙ ap (nat_lt (one (writes pid))) (let e = count_changed writes other pid pids kept small in let f : one (other pid) ≡ 0 = ap one (own (writes pid)) in omega arith)
    ∙ ap (λ (c : Counts). nat_lt (one (writes pid)) c.writers) (sym (was.each d))
  where
    writes : ℕ → Bool
    writes q = (held_of table q d).entry_written

    other : ℕ → Bool
    other q = not (q == pid) && writes q

    none : (q : ℕ) → writes q ≡ false → other q ≡ false
    none q h = ap (λ b. not (q == pid) && b) h ∙ and_false (not (q == pid)) where
      and_false : (b : Bool) → (b && false) ≡ false
      and_false true = refl
      and_false false = refl

    kept : (q : ℕ) → q ≢ pid → other q ≡ writes q
    kept q ne = ap (λ b. not b && writes q) (ne_eqb q pid ne)

    own : (b : Bool) → (not (pid == pid) && b) ≡ false
    own b = ap (λ c. not c && b) (eq-eqb pid pid refl)
