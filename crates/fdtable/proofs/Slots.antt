-- The descriptors of one page, for which there is memory or not.
use Rattle.std.proofs.Common.{◌≡◌, ℕ, List, [], ◌∷◌, get_or, true, false, not, Option, None, refl}
use Rattle.model.specs.Paths.{is_empty}
use Rattle.fdtable.specs.Pages.{PageContent, no_page, padded}
use Rattle.fdtable.proofs.Paged.{none_given}

-- what a contract sees of a page
abbrev pub page_of : List (Option ℕ) → PageContent
page_of xs = record { slots = padded xs; room = not (is_empty xs) }

pub padded_same : (xs : List (Option ℕ)) (i : ℕ) → get_or (padded xs) i None ≡ get_or xs i None
padded_same [] i = none_given 64 i
padded_same (x ∷ xs) i = refl

pub bare_page : (xs : List (Option ℕ)) → not (is_empty xs) ≡ false → page_of xs ≡ no_page
bare_page [] e = refl
bare_page (x ∷ xs) e = absurd (let no : true ≡ false = e in cc)
