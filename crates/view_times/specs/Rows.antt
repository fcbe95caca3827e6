-- What numbers stand for.
use Rattle.std.specs.Prelude.{ℕ, refl}
use Rattle.std.specs.Coded.{Coded, code_by, coded×, coded_ℕ}
use Rattle.std.specs.HashMap.{HashMap}
use Rattle.std.specs.Ordering.{nat_cmp}
use Rattle.model.specs.FiniteMap as map

-- what each number stands for, and for how many more there is room
pub record Rows (X : Type 0) : Type 0 where
  pub rows : map.FinMap nat_cmp X
  pub room : ℕ

abbrev pub rows_code : {X : Type 0} → Coded X → Coded (Rows X)
rows_code {X = X} x = code_by (map.FinMap nat_cmp X × ℕ) (coded× (map.code coded_ℕ x) coded_ℕ)
    (λ t. (t.rows, t.room)) (λ q. record { rows = q.0; room = q.1 }) (λ _. refl)

-- the map that a table holds
abbrev pub rows_in : {X S : Type 0} → HashMap ℕ X S → map.FinMap nat_cmp X
rows_in table = map.from_entries {R = nat_cmp} table.entries
