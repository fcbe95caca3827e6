-- Indices in a list of entries whose keys rise.
use Rattle.std.specs.Prelude.{◌≡◌, ℕ, suc, ◌<◌, ◌≤◌, Bool, true, false, List, [], ◌∷◌, length}
use Rattle.std.specs.Ordering.{match_ordering}
use Rattle.std.specs.declared.cmp.Ordering.{Ordering}

module _ {K X : Type 0} (R : K → K → Ordering) where
  -- how many keys stand before the index of this one
  abbrev pub rank : K → List (K × X) → ℕ
  rank k [] = 0
  rank k (e ∷ es) = match_ordering (R k e.0) 0 0 (suc (rank k es))

  -- whether the key stands at that index
  abbrev pub holds : K → List (K × X) → Bool
  holds k [] = false
  holds k (e ∷ es) = match_ordering (R k e.0) false true (holds k es)

  -- the key stands there
  pub record IsIndexOf (k : K) (es : List (K × X)) (at : ℕ) : Type 0 where
    pub held : holds k es ≡ true
    pub index : at ≡ rank k es
    pub within : at < length es

  -- the key is not there, and would stand there
  pub record IsIndexFor (k : K) (es : List (K × X)) (at : ℕ) : Type 0 where
    pub absent : holds k es ≡ false
    pub index : at ≡ rank k es
    pub within : at ≤ length es

  -- the entries before the index of this key
  abbrev pub before : K → List (K × X) → List (K × X)
  before k [] = []
  before k (e ∷ es) = match_ordering (R k e.0) [] [] (e ∷ before k es)

  -- the entries behind it
  abbrev pub after : K → List (K × X) → List (K × X)
  after k [] = []
  after k (e ∷ es) = match_ordering (R k e.0) (e ∷ es) es (after k es)
