-- What a table gives after one change of it, and a row of places as the entries of its map.
use Rattle.std.proofs.Common.{Bool, true, false, not, ◌≡◌, ◌≢◌, ℕ, suc, ◌<◌, List, [], ◌∷◌, Option, Some, None, nat_cmp, Less, refl, sym, ap, ◌∙◌, arith}
use Rattle.std.specs.FinMap.Entries.{by_order}
use Rattle.std.specs.Cmp.{nat_cmp_total, nat_cmp_is}
use Rattle.model.specs.FiniteMap.{FinMap, entries, put, get, from_entries, entries-empty, entries-insert}
use Rattle.model.specs.Places.{placed}
use Rattle.model.proofs.Laws.{get_same, get_other, removed_same, removed_other}
use Rattle.fdtable.specs.Patches.{laid_at, or_before}

-- one is the other's negation
pub flip : (s b : Bool) → s ≡ not b → b ≡ not s
flip s true e = sym (ap not e)
flip s false e = sym (ap not e)

-- the changed descriptor
pub laid_same : (f : ℕ) (g : Option (Option ℕ)) (table : FinMap nat_cmp ℕ) → get (laid_at f g table) f ≡ or_before g (get table f)
laid_same f (Some (Some d)) table = get_same table f d
laid_same f (Some None) table = removed_same table f
laid_same f None table = refl

-- another one
pub laid_other : (f : ℕ) (g : Option (Option ℕ)) (table : FinMap nat_cmp ℕ) (q : ℕ) → q ≢ f → get (laid_at f g table) q ≡ get table q
laid_other f (Some (Some d)) table q away = get_other table f q d away
laid_other f (Some None) table q away = removed_other table f q away
laid_other f None table q away = refl

module _ {X : Type 0} where
  -- what is not there is nothing
  pub none_unless : (o : Option X) → (o ≢ None → ⊥) → o ≡ None
  none_unless None never = refl
  none_unless (Some x) never = absurd (never (λ e. absurd cc))

  put_first : (k first : ℕ) (v : X) (xs : List (Option X)) → k < first → put nat_cmp k v (placed first xs) ≡ (k, v) ∷ placed first xs
  put_first k first v [] low = refl
  put_first k first v (None ∷ xs) low = put_first k (suc first) v xs (omega arith)
  put_first k first v (Some x ∷ xs) low =
      ap (λ r. by_order r ((k, v) ∷ (first, x) ∷ placed (suc first) xs) ((first, v) ∷ placed (suc first) xs) ((first, x) ∷ put nat_cmp k v (placed (suc first) xs)))
      (sym (nat_cmp_is k first Less low))

  -- the taken places are the entries of their map
  pub entries-placed : (first : ℕ) (xs : List (Option X)) → entries (from_entries {R = nat_cmp} (placed first xs)) ≡ placed first xs
  entries-placed first [] = entries-empty nat_cmp
  entries-placed first (None ∷ xs) = entries-placed (suc first) xs
  entries-placed first (Some x ∷ xs) =
      entries-insert nat_cmp_total (from_entries (placed (suc first) xs)) first x ∙ ap (put nat_cmp first x) (entries-placed (suc first) xs)
      ∙ put_first first (suc first) x xs (omega arith)
