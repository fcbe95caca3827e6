-- What each process's live transaction has touched, each touch once.
use Rattle.std.specs.Prelude.{ℕ, List, [], ◌∷◌, ◌++◌, get_or, if◌then◌else◌}
use Rattle.model.specs.Steps.{Touch}
use Rattle.model.specs.Clashes.{has_touch}

-- the touches of a process, none for one that is not there
abbrev pub touched_by : List (List Touch) → ℕ → List Touch
touched_by all q = get_or all q []

-- one touch more, unless it is there already
abbrev pub with_touch : List Touch → Touch → List Touch
with_touch held t = if has_touch t.aspect t.write held then held else held ++ t ∷ []

-- and all of these, one after the other
abbrev pub with_touches : List Touch → List Touch → List Touch
with_touches held [] = held
with_touches held (t ∷ ts) = with_touches (with_touch held t) ts

-- each touch of a list once, where it stands first
abbrev pub distinct : List Touch → List Touch
distinct ts = with_touches [] ts
