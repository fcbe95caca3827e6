-- What a contract sees of a directory.
use Rattle.std.specs.Prelude.{ℕ, refl}
use Rattle.std.specs.Coded.{Coded, code_by, coded×, coded_ℕ, coded_list}
use Rattle.model.specs.FiniteMap as map
use Rattle.model.specs.State.{name_cmp}

-- the numbers that the names give, and for how many additions room is promised
pub record Listing : Type 0 where
  pub names : map.FinMap name_cmp ℕ
  pub promised : ℕ

abbrev pub listing_code : Coded Listing
listing_code = code_by (map.FinMap name_cmp ℕ × ℕ)
    (coded× (map.code (coded_list coded_ℕ) coded_ℕ) coded_ℕ)
    (λ d. (d.names, d.promised)) (λ p. record { names = p.0; promised = p.1 }) (λ _. refl)
