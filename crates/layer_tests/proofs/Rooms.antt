-- Room for what was noted of a table of descriptors, with one change more.
use Rattle.std.proofs.Common.{◌≡◌, ◌≢◌, ℕ, None, List, Bool, Option, ap, sym, ◌∙◌, subst, inl, inr, nat_cmp}
use Rattle.std.proofs.lemmas.Bool.{cases_eq}
use Rattle.model.specs.FiniteMap.{FinMap, empty, get, get-empty, insert}
use Rattle.model.proofs.Laws.{get_other}
use Rattle.fdtable.specs.Pages.{HasRoom}

pub more_has_room : (notes now : FinMap nat_cmp (Option ℕ)) (before after : List Bool) (fd : ℕ) (given : Option ℕ)
    → now ≡ insert notes fd given → HasRoom after fd → ((f : ℕ) → HasRoom before f → HasRoom after f)
    → ((f : ℕ) → get notes f ≢ None → HasRoom before f) → (f : ℕ) → get now f ≢ None → HasRoom after f
more_has_room notes now before after fd given is here kept has f some = elim (cases_eq f fd) [
  | inl e ↦ subst (HasRoom after) (sym e) here
  | inr away ↦ kept f (has f (λ none. some (ap (λ (m : FinMap nat_cmp (Option ℕ)). get m f) is ∙ (get_other notes fd f given away ∙ none))))
]

pub none_has_room : (notes : FinMap nat_cmp (Option ℕ)) (rooms : List Bool) → notes ≡ empty → (f : ℕ) → get notes f ≢ None → HasRoom rooms f
none_has_room notes rooms is f some = absurd (some (ap (λ (m : FinMap nat_cmp (Option ℕ)). get m f) is ∙ get-empty nat_cmp f))
