-- The places of one process stand together, from its first one on.
use Rattle.std.proofs.Common.{◌≡◌, ◌≢◌, ℕ, ◌≤◌, refl, ap, subst, false, arith, Option, Some, None, List, ◌∷◌}
use Rattle.std.specs.Ordering.{is_gt, nat_cmp, ordering_then}
use Rattle.std.specs.BTreeMap as tree
use Rattle.std.specs.declared.cmp.Ordering.{Ordering}
use Rattle.std.specs.declared.cmp.Ordering.TheVariants.{Less, Equal, Greater}
use Rattle.std.specs.Cmp.{nat_cmp_total, tied_itself}
use Rattle.std.specs.BTreeMap.Range.{IsRangeOf, IsEntryInRange, IsLeBy}
use Rattle.std.specs.declared.ops.Bound.TheVariants.{Included, Unbounded}
use Rattle.std.specs.Option.{is_some, IsSome, IfSome}
use Rattle.std.specs.List.{slice_get}
use Rattle.std.proofs.lemmas.Map.Keys.{le_from_not_gt}
use Rattle.list_modes.specs.Holding.{Held, place_cmp}

first_not_after : (s t : Ordering) → is_gt s ≡ false → is_gt t ≡ false → is_gt (ordering_then s t) ≡ false
first_not_after Less t f g = refl
first_not_after Equal t f g = g
first_not_after Greater t f g = f

first_part : (s t : Ordering) → is_gt (ordering_then s t) ≡ false → is_gt s ≡ false
first_part Less t h = refl
first_part Equal t h = refl
first_part Greater t h = h

zero_first : (d : ℕ) → is_gt (nat_cmp 0 d) ≡ false
zero_first d = grind arith

pub starts : (p d : ℕ) → is_gt (place_cmp (p, 0) (p, d)) ≡ false
starts p d = first_not_after (nat_cmp p p) (nat_cmp 0 d) (ap is_gt (tied_itself nat_cmp_total p)) (zero_first d)

-- a place from the process's first one on, which is another's, and comes before one of its own
pub not_between : (p d : ℕ) (e : ℕ × ℕ) → is_gt (place_cmp (p, 0) e) ≡ false → is_gt (place_cmp e (p, d)) ≡ false → e.0 ≡ p
not_between p d e from below =
    let a : p ≤ e.0 = le_from_not_gt p e.0 (first_part (nat_cmp p e.0) (nat_cmp 0 e.1) from) in
    let b : e.0 ≤ p = le_from_not_gt e.0 p (first_part (nat_cmp e.0 p) (nat_cmp e.1 d) below) in
    omega arith

-- so where the first place from there on is another's, the process holds nothing
pub no_later : (marks : tree.BTreeMap (ℕ × ℕ) Held) (p d : ℕ) (e : (ℕ × ℕ) × Held) (t r : List ((ℕ × ℕ) × Held)) → IsRangeOf place_cmp (Included (p, 0)) Unbounded marks r → r ≡ e ∷ t → e.0.0 ≢ p → tree.get place_cmp marks (p, d) ≡ None
no_later marks p d e t r range first other = by (tree.get place_cmp marks (p, d)) refl where
  from : is_gt (place_cmp (p, 0) e.0) ≡ false
  from = (subst (λ (s : List ((ℕ × ℕ) × Held)). IfSome (slice_get s 0) (IsEntryInRange place_cmp (Included (p, 0)) Unbounded marks)) first range.1).0.0

  below : IsSome (tree.get place_cmp marks (p, d)) → is_gt (place_cmp e.0 (p, d)) ≡ false
  below there = subst (λ (s : List ((ℕ × ℕ) × Held)). IfSome (slice_get s 0) (λ f. IsLeBy place_cmp f.0 (p, d))) first (range.2 (p, d) (starts p d, tt) there)

  by : (o : Option Held) → tree.get place_cmp marks (p, d) ≡ o → o ≡ None
  by None is = refl
  by (Some x) is = absurd (other (not_between p d e.0 from (below (ap is_some is))))
