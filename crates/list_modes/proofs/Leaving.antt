-- A table of which nothing is held, one in which a process holds what it held, and one of which it
-- holds nothing any more.
use Rattle.std.proofs.Common.{◌≡◌, ◌≢◌, ℕ, zero, suc, ◌+◌, refl, sym, ◌∙◌, ap, true, false, Bool, [], None, unwrap_or}
use Rattle.std.specs.Prelude.{if◌then◌else◌, ◌==◌, ◌&&◌}
use Rattle.std.specs.Map.{lookup}
use Rattle.std.specs.BTreeMap as tree
use Rattle.std.specs.Ordering.{is_eq, nat_cmp}
use Rattle.std.proofs.lemmas.Bool.{and_parts, eqb-true, eqb-false}
use Rattle.model.specs.Moments.{count_below}
use Rattle.list_modes.specs.Holding.{Held, Table, nothing, place_cmp, held_of, SetsHeld, LetsGo}
use Rattle.list_modes.specs.Counted.{Counts, no_counts, tally, pids, IsCounted}
use Rattle.list_modes.proofs.Tallies.{other_process, counts_equal}

none_pass : (n : ℕ) → count_below (λ q. false) n ≡ 0
none_pass zero = refl
none_pass (suc n) = ap (λ x. 0 + x) (none_pass n)

none_held : (d : ℕ) → no_counts ≡ tally (λ p. held_of [] p d)
none_held d = counts_equal no_counts (tally (λ p. held_of [] p d)) (sym (none_pass pids)) (sym (none_pass pids)) (sym (none_pass pids))

pub counted_none : (marks : tree.BTreeMap (ℕ × ℕ) Held) (counts : tree.BTreeMap ℕ Counts) → marks.entries ≡ [] → counts.entries ≡ [] → IsCounted marks.entries counts
counted_none marks counts no_marks none = record {
  each = λ d. ap (λ es. unwrap_or (lookup (λ k. is_eq (nat_cmp d k)) es) no_counts) none ∙ none_held d ∙ ap (λ t. tally (λ p. held_of t p d)) (sym no_marks);
  beyond = λ p d far. ap (λ t. held_of t p d) no_marks;
}

-- the others hold what they held, whatever was taken from the one
pub others_hold : (first old new : Table) (pid dir : ℕ) → ((p d : ℕ) → p ≢ pid → held_of old p d ≡ held_of first p d) → SetsHeld old new pid dir nothing → (p d : ℕ) → p ≢ pid → held_of new p d ≡ held_of first p d
others_hold first old new pid dir was sets p d ne = other_process old new pid dir nothing sets p d ne ∙ was p d ne

pub all_gone : (old : Table) (now : tree.BTreeMap (ℕ × ℕ) Held) (pid : ℕ) → ((p d : ℕ) → p ≢ pid → held_of now.entries p d ≡ held_of old p d) → ((d : ℕ) → tree.get place_cmp now (pid, d) ≡ None) → LetsGo old now.entries pid
all_gone old now pid others none p d = by (p == pid) refl where
  by : (b : Bool) → (p == pid) ≡ b → held_of now.entries p d ≡ (if b then nothing else held_of old p d)
  by true same = ap (λ q. held_of now.entries q d) (eqb-true p pid same) ∙ ap (λ o. unwrap_or o nothing) (none d)
  by false ne = others p d (eqb-false p pid ne)

-- a process holds of a directory what it held there
pub held_again : (table : Table) (pid dir : ℕ) (held : Held) → held ≡ held_of table pid dir → SetsHeld table table pid dir held
held_again table pid dir held is p d = by ((p == pid) && (d == dir)) refl where
  by : (b : Bool) → ((p == pid) && (d == dir)) ≡ b → held_of table p d ≡ (if b then held else held_of table p d)
  by true same =
      let parts = and_parts (p == pid) (d == dir) same in
      ap (λ q. held_of table q d) (eqb-true p pid parts.0) ∙ ap (held_of table pid) (eqb-true d dir parts.1) ∙ sym is
  by false other = refl
