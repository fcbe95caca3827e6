-- A patch that is laid change by change, from the lowest on, and has what the table gave in their place.
use Rattle.std.proofs.Common.{◌≡◌, ◌≢◌, ℕ, ◌+◌, ◌<◌, ◌≤◌, Option, Some, None, nat_cmp, refl, sym, ap, ◌∙◌, arith, inl, inr}
use Rattle.std.proofs.lemmas.Bool.{cases_eq, cases_lt}
use Rattle.model.specs.FiniteMap.{FinMap, get, insert}
use Rattle.model.specs.State.{mapped}
use Rattle.model.proofs.Laws.{get_other, get_same}
use Rattle.fdtable.specs.Lowest.{IsNotedFrom}
use Rattle.fdtable.specs.Patches.{Given, IsFormer, IsLaid, laid_at, or_before}
use Rattle.fdtable.proofs.Opened.{LaidBelow, laid_all, laid_next}

-- the changes below this number are laid, and the table's former descriptors stand in their places
pub record AreSwapped (patch : Given) (before table : FinMap nat_cmp ℕ) (now : Given) (n : ℕ) : Type 0 where
  pub laid : LaidBelow patch before table n
  pub former : (f : ℕ) → f < n → get now f ≡ mapped (λ _. get before f) (get patch f)
  pub left : (f : ℕ) → n ≤ f → get now f ≡ get patch f

pub swapped_start : (patch : Given) (before : FinMap nat_cmp ℕ) → AreSwapped patch before before patch 0
swapped_start patch before = record {
  laid = record {
    below = λ f low. absurd (omega (arith, low));
    above = λ f high. refl;
  };
  former = λ f low. absurd (omega (arith, low));
  left = λ f high. refl;
}

given_back : (note : Option (Option ℕ)) (o : Option ℕ) → note ≢ None → Some o ≡ mapped (λ _. o) note
given_back None o some = absurd (some refl)
given_back (Some n) o some = refl

module _ (patch : Given) (before table : FinMap nat_cmp ℕ) (now : Given) (n : ℕ) (so : AreSwapped patch before table now n) where
  -- nothing is noted up to the next change
  module _ (f : ℕ) (found : IsNotedFrom now n (Some f)) where
    between : (g : ℕ) → n ≤ g → g < f → get patch g ≡ None
    between g high low = sym (so.left g high) ∙ found.2 g high low

    pub its_note : get now f ≡ get patch f
    its_note = so.left f found.0

    pub is_noted : get patch f ≢ None
    is_noted none = found.1 (its_note ∙ none)

    skipped : LaidBelow patch before table f
    skipped = record {
      below = λ g low. elim (cases_lt g n) [
        | inl lower ↦ so.laid.below g lower
        | inr high ↦ so.laid.above g high ∙ ap (λ o. or_before o (get before g)) (sym (between g high low))
      ];
      above = λ g high. so.laid.above g (omega (arith, high, found.0));
    }

    pub swapped_more : (after : FinMap nat_cmp ℕ) (later : Given) → after ≡ laid_at f (get now f) table → later ≡ insert now f (get table f) → AreSwapped patch before after later (f + 1)
    swapped_more after later is put = record {
      laid = laid_next patch before table after f skipped (is ∙ ap (λ o. laid_at f o table) its_note);
      former = λ g low. ap (λ (m : Given). get m g) put ∙ elim (cases_eq g f) [
        | inl e ↦
            ap (get (insert now f (get table f))) e ∙ get_same now f (get table f) ∙ ap Some (skipped.above f (omega arith))
            ∙ given_back (get patch f) (get before f) is_noted ∙ ap (λ g. mapped (λ _. get before g) (get patch g)) (sym e)
        | inr away ↦ get_other now f g (get table f) away ∙ earlier g (omega (arith, low, away))
      ];
      left = λ g high. ap (λ (m : Given). get m g) put ∙ get_other now f g (get table f) (λ e. let no : g ≡ f = e in omega (arith, high, no)) ∙ so.left g (omega (arith, high, found.0));
    }
      where
        earlier : (g : ℕ) → g < f → get now g ≡ mapped (λ _. get before g) (get patch g)
        earlier g low = elim (cases_lt g n) [
          | inl lower ↦ so.former g lower
          | inr high ↦ found.2 g high low ∙ ap (mapped (λ _. get before g)) (sym (between g high low))
        ]

  -- nothing more is noted
  module _ (none : IsNotedFrom now n None) where
    unnoted : (f : ℕ) → n ≤ f → get patch f ≡ None
    unnoted f high = sym (so.left f high) ∙ none f high

    pub swapped_laid : IsLaid patch before table
    swapped_laid = laid_all patch before table n so.laid unnoted

    pub swapped_former : IsFormer patch before now
    swapped_former f = elim (cases_lt f n) [
      | inl low ↦ so.former f low
      | inr high ↦ none f high ∙ ap (mapped (λ _. get before f)) (sym (unnoted f high))
    ]
