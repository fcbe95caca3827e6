-- When a later state keeps an aspect of an earlier one: it has the same value in both. A
-- pipe has two halves, each kept one-sidedly.
use Rattle.std.specs.Prelude.{◌≡◌, ℕ, ◌/◌, List, ◌++◌, length, get_or}
use Rattle.model.specs.FiniteMap.{keys}
use Rattle.model.specs.Limits.{block_length}
use Rattle.std.specs.List.{AllByRecursion}
pub use Rattle.ids.specs.declared.aspect.Aspect.{Aspect}
pub use Rattle.ids.specs.declared.aspect.Aspect.TheVariants.{Entry, Names, Size, Block, Links, Ends}
pub use Rattle.ids.specs.declared.aspect.Aspect.TheVariants.{Offset, Front, Back, Target, Rights}
use Rattle.model.specs.State.{Kernel, names_of, file_of, pipe_of, target_of, rights_of}
use Rattle.model.specs.State.{entry_of, offset_of, links, ends}

-- the bytes of one block, those past the end counted as zero
abbrev pub SameBlock : ℕ → List ℕ → List ℕ → Type 0
SameBlock block xs ys = (i : ℕ) → i / block_length ≡ block → get_or xs i 0 ≡ get_or ys i 0

-- `later` keeps this aspect of `now`
abbrev pub Keeps : Kernel → Kernel → Aspect → Type 0
Keeps now later (Entry d x) = entry_of later d x ≡ entry_of now d x
Keeps now later (Names d) = keys (names_of later d) ≡ keys (names_of now d)
Keeps now later (Size n) = length (file_of later n) ≡ length (file_of now n)
Keeps now later (Block n block) = SameBlock block (file_of later n) (file_of now n)
Keeps now later (Links n) = links later n ≡ links now n
Keeps now later (Ends p) =
    (ends later p (λ d. d.reading) ≡ ends now p (λ d. d.reading))
    × (ends later p (λ d. d.writing) ≡ ends now p (λ d. d.writing))
Keeps now later (Offset d) = offset_of later d ≡ offset_of now d
-- nothing writes it, but in a later state the number may be another object's
Keeps now later (Target n) = target_of later n ≡ target_of now n
-- where none were set they go by the kind
Keeps now later (Rights n) = rights_of later n ≡ rights_of now n
-- a front is kept where bytes only came behind, a back where bytes only went in front
Keeps now later (Front p) = (more : List ℕ) × (pipe_of later p ≡ pipe_of now p ++ more)
Keeps now later (Back p) = (gone : List ℕ) × (pipe_of now p ≡ gone ++ pipe_of later p)

abbrev pub KeepsAll : Kernel → Kernel → List Aspect → Type 0
KeepsAll now later = AllByRecursion (Keeps now later)
