-- Changes of the slots of one process that are noted one after the other.
use Rattle.std.proofs.Common.{◌≡◌, ◌<◌, ◌≤◌, ◌+◌, ◌∙◌, ℕ, Option, Some, None, nat_cmp, sym, ap, arith, inl, inr}
use Rattle.std.proofs.lemmas.Bool.{cases_eq}
use Rattle.model.specs.FiniteMap.{empty, get, get-empty, insert}
use Rattle.model.proofs.Laws.{get_other, get_same}
use Rattle.fdtable.specs.Patches.{Given}

-- those below n are noted as g says, and no others
pub record NotedBelow (n : ℕ) (g : ℕ → Option (Option ℕ)) (patch : Given) : Type 0 where
  pub below : (f : ℕ) → f < n → get patch f ≡ g f
  pub above : (f : ℕ) → n ≤ f → get patch f ≡ None

pub none_noted : (g : ℕ → Option (Option ℕ)) (patch : Given) → patch ≡ empty → NotedBelow 0 g patch
none_noted g patch is = record {
  below = λ f low. absurd (omega (arith, low));
  above = λ f high. ap (λ (m : Given). get m f) is ∙ get-empty nat_cmp f;
}

module _ (n : ℕ) (g : ℕ → Option (Option ℕ)) (patch : Given) (so : NotedBelow n g patch) where
  pub none_more : g n ≡ None → NotedBelow (n + 1) g patch
  none_more none = record {
    below = λ f low. elim (cases_eq f n) [
      | inl same ↦ so.above f (omega (arith, same)) ∙ sym (ap g same ∙ none)
      | inr away ↦ so.below f (omega (arith, low, away))
    ];
    above = λ f high. so.above f (omega (arith, high));
  }

  pub one_more : (given : Option ℕ) (now : Given) → g n ≡ Some given → now ≡ insert patch n given → NotedBelow (n + 1) g now
  one_more given now one is = record {
    below = λ f low. ap (λ (m : Given). get m f) is ∙ elim (cases_eq f n) [
      | inl same ↦ ap (get (insert patch n given)) same ∙ get_same patch n given ∙ sym (ap g same ∙ one)
      | inr away ↦ get_other patch n f given away ∙ so.below f (omega (arith, low, away))
    ];
    above = λ f high.
        ap (λ (m : Given). get m f) is ∙ get_other patch n f given (λ same. omega (arith, same, high))
        ∙ so.above f (omega (arith, high));
  }
