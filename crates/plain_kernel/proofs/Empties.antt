-- A map of nothing.
use Rattle.std.proofs.Common.{◌≡◌, ℕ, true, List, [], map, ◌==◌, nat_cmp, sym, ap}
use Rattle.std.specs.List.{count_by}
use Rattle.model.specs.FiniteMap.{empty, entries-empty, keys, values}
use Rattle.model.specs.Paths.{is_empty}
use Rattle.model.specs.State.{Name, name_cmp}

pub no_keys : ◌≡◌ {A = List Name} [] (keys (empty {X = ℕ} {R = name_cmp}))
no_keys = ap (map (λ e. e.0)) (sym (entries-empty name_cmp))

pub is_empty-keys : true ≡ is_empty (keys (empty {X = ℕ} {R = name_cmp}))
is_empty-keys = ap is_empty no_keys

pub none_given : (n : ℕ) → 0 ≡ count_by (λ m. m == n) (values (empty {X = ℕ} {R = name_cmp}))
none_given n = ap (λ (es : List (Name × ℕ)). count_by (λ m. m == n) (map (λ e. e.1) es)) (sym (entries-empty name_cmp))

pub no_values : ◌≡◌ {A = List ℕ} [] (values (empty {X = ℕ} {R = nat_cmp}))
no_values = ap (λ (es : List (ℕ × ℕ)). map (λ e. e.1) es) (sym (entries-empty nat_cmp))
