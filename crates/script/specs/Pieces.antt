-- The pieces of a text.
use Rattle.std.specs.Prelude.{ℕ, ◌==◌, List, [], ◌∷◌, Option, Some, None, eqb, if◌then◌else◌}
use Rattle.std.specs.List.{slice_split}

-- what stands up to the first byte of this kind, or all of it
abbrev pub up_to : ℕ → List ℕ → List ℕ
up_to byte [] = []
up_to byte (b ∷ bs) = if b == byte then [] else b ∷ up_to byte bs

-- what stands behind the first byte of this kind, if there is one
abbrev pub behind : ℕ → List ℕ → Option (List ℕ)
behind byte [] = None
behind byte (b ∷ bs) = if b == byte then Some bs else behind byte bs

-- the pieces of what is left of a text, and none where nothing is left
abbrev pub pieces_of : ℕ → Option (List ℕ) → List (List ℕ)
pieces_of byte None = []
pieces_of byte (Some text) = slice_split (λ b. eqb b byte) text

abbrev pub one_of : List (List ℕ) → Option (List ℕ)
one_of [] = None
one_of (a ∷ []) = Some a
one_of (a ∷ _ ∷ _) = None

abbrev pub two_of : List (List ℕ) → Option (List ℕ × List ℕ)
two_of (a ∷ b ∷ []) = Some (a, b)
two_of _ = None

abbrev pub three_of : List (List ℕ) → Option (List ℕ × List ℕ × List ℕ)
three_of (a ∷ b ∷ c ∷ []) = Some (a, b, c)
three_of _ = None

abbrev pub four_of : List (List ℕ) → Option (List ℕ × List ℕ × List ℕ × List ℕ)
four_of (a ∷ b ∷ c ∷ d ∷ []) = Some (a, b, c, d)
four_of _ = None
