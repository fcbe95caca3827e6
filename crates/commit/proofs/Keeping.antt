-- What is claimed stays what is kept where slots change.
use Rattle.std.proofs.Common.{◌≡◌, ℕ, List, [], ◌∷◌, ◌++◌, true, sym, ◌∙◌, ap, subst}
use Rattle.model.specs.Effects.{Effect}
use Rattle.shadow.specs.Committed.{Committed}
use Rattle.shadow.specs.Claims.{Covers, KeepsMore, KeepsSame, claimed, claimed_by}
use Rattle.commit.specs.Claims.{AreCovered}
use Rattle.commit.specs.Edits.{with_change}
use Rattle.commit.specs.ProcessStates.{views, slot_at, Sets}
use Rattle.commit.specs.Views.{View, Shows, changes_in, is_live_slot, view_at}
use Rattle.commit.specs.declared.process_state.ProcessState.{ProcessState}
use Rattle.commit.proofs.Claims.{covered_same, covered_with, covers_one, gives_back}
use Rattle.commit.proofs.Showing.{at_is, shows, same_views, live_push}

-- what a slot's transaction claims is there
pub slot_covered : (slots : List ProcessState) (s : Committed) (q : ℕ) (v : View) → AreCovered (views slots) s → v ≡ slot_at slots q → Covers s (changes_in v)
slot_covered slots s q v covered is = subst (λ w. Covers s (changes_in w)) (at_is slots q ∙ sym is) (covers_one (views slots) s covered q)

-- a transaction's changes are forgotten or committed
pub covered_without_its : (old new : List ProcessState) (p : ℕ) (v : View) (ds : List Effect) (s t : Committed) → Sets old new p v → changes_in v ≡ [] → ds ≡ changes_in (slot_at old p)
    → KeepsMore t s (λ c. claimed c ds) → AreCovered (views old) s → AreCovered (views new) t
covered_without_its old new p v ds s t sets empty is kept =
    gives_back (views old) (views new) p v s t (shows old new p v sets) empty (subst (λ es. KeepsMore t s (λ c. claimed c es)) (is ∙ ap changes_in (sym (at_is old p))) kept)

-- a transaction changes one thing more, and what that claims is kept
pub covered_with_change : (old new : List ProcessState) (p : ℕ) (d : Effect) (s t : Committed) → AreCovered (views old) s → is_live_slot (slot_at old p) ≡ true → KeepsMore s t (λ c. claimed_by c d)
    → Sets old new p (with_change d (slot_at old p)) → AreCovered (views new) t
covered_with_change old new p d s t covered live kept sets =
    covered_with (views old) (views new) p d s t (subst (λ v. Shows (views old) (views new) p (with_change d v)) (sym (at_is old p)) (shows old new p (with_change d (slot_at old p)) sets)) after kept covered
  where
    after : changes_in (with_change d (view_at (views old) p)) ≡ changes_in (view_at (views old) p) ++ d ∷ []
    after = live_push d (view_at (views old) p) (ap is_live_slot (at_is old p) ∙ live)

-- a change was refused
pub covered_with_none : (old new : List ProcessState) (p : ℕ) (s t : Committed) → AreCovered (views old) s → Sets old new p (slot_at old p) → KeepsSame s t → AreCovered (views new) t
covered_with_none old new p s t covered sets kept = covered_same (views old) (views new) s t (same_views old new p sets) kept covered

-- what is kept stays
pub covered_still : (views : List View) (s t : Committed) → KeepsSame s t → AreCovered views s → AreCovered views t
covered_still views s t kept covered c = covered c ∙ sym (kept c)
