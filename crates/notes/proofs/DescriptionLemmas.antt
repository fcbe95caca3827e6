-- What is kept of descriptions, after one of them changed.
use Rattle.std.proofs.Common.{◌≡◌, ◌≢◌, ℕ, cond, List, Option, Some, None, is_some, true, nat_cmp, is_eq, refl, sym, ap, ◌∙◌, subst₂, inl, inr}
use Rattle.std.proofs.lemmas.Bool.{cases_eq}
use Rattle.model.proofs.Laws.{tied, untied}
use Rattle.notes.specs.declared.opening.Opening.{Opening}
use Rattle.notes.specs.declared.opening.Opening.TheVariants.{Kept}
use Rattle.notes.specs.Patches.{kept_at, opening_at, or_kept}
use Rattle.notes.specs.Openings.{AtOpening, SameOpenings}
use Rattle.notes.proofs.SlotLemmas.{something}

abbrev pub Kept_openings : Type 0
Kept_openings = List (ℕ × Opening)

pub is_kept : (o : Option Opening) (w : Opening) → o ≡ Some w → is_some o ≡ true
is_kept o w is = ap is_some is

-- one number has this now, in std's words
abbrev pub HasAt : ℕ → Opening → Kept_openings → Kept_openings → Type 0
HasAt d w old new = (q : ℕ) → kept_at new q ≡ cond (is_eq (nat_cmp d q)) (Some w) (kept_at old q)

pub has_here : (d : ℕ) (w : Opening) (old new : Kept_openings) → HasAt d w old new → kept_at new d ≡ Some w
has_here d w old new is = is d ∙ tied d d (Some w) (kept_at old d) refl

has_others : (d : ℕ) (w : Opening) (old new : Kept_openings) → HasAt d w old new → (e : ℕ) → e ≢ d → kept_at new e ≡ kept_at old e
has_others d w old new is e away = is e ∙ untied d e (Some w) (kept_at old e) (λ same. away (sym same))

has_places : (d : ℕ) (w : Opening) (old new : Kept_openings) → HasAt d w old new → (e : ℕ) → kept_at old e ≢ None → kept_at new e ≢ None
has_places d w old new is e some = elim (cases_eq e d) [
  | inl same ↦ something (kept_at new e) w (ap (kept_at new) same ∙ has_here d w old new is)
  | inr away ↦ λ none. some (sym (has_others d w old new is e away) ∙ none)
]

-- what is kept under a number changes so
pub changed_at : (R : Opening → Opening → Type 0) (d : ℕ) (was w : Opening) (old new : Kept_openings) → kept_at old d ≡ Some was → HasAt d w old new → R was w → AtOpening d R old new
changed_at R d was w old new kept is so = record {
  here = subst₂ R (sym (ap or_kept kept)) (sym (ap or_kept (has_here d w old new is))) so;
  others = λ e away. ap or_kept (has_others d w old new is e away);
  places = has_places d w old new is;
}

-- a place for a number that had none
pub place_at : (d : ℕ) (old new : Kept_openings) → kept_at old d ≡ None → HasAt d Kept old new → SameOpenings old new
place_at d old new none is = record {
  each = λ e. elim (cases_eq e d) [
    | inl same ↦ ap (λ e. opening_at new e) same ∙ ap or_kept (has_here d Kept old new is) ∙ sym (ap (λ e. opening_at old e) same ∙ ap or_kept none)
    | inr away ↦ ap or_kept (has_others d Kept old new is e away)
  ];
  places = has_places d Kept old new is;
}
