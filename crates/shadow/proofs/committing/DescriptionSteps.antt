-- The changes of descriptions, made in the store one description after the other.
use Rattle.std.proofs.Common.{◌≡◌, ◌≢◌, ℕ, true, cond, List, [], ◌∷◌, Option, Some, nat_cmp, refl}
use Rattle.std.proofs.Common.{sym, ap, subst, ◌∙◌, inl, inr}
use Rattle.std.specs.List.Sorted.{IsStrictlySortedBy}
use Rattle.std.specs.Map.{keys_of}
use Rattle.std.proofs.lemmas.Bool.{cases_eq}
use Rattle.model.specs.FiniteMap.{get}
use Rattle.model.specs.Changes.{holders}
use Rattle.call_laws.proofs.Laws.{true_is_false}
use Rattle.freeing_laws.proofs.Openings.{openings_change_lem}
use Rattle.store.specs.Numbers.{Numbers, coming}
use Rattle.store.specs.Shown.{descriptions}
use Rattle.store.specs.declared.Object.TheVariants.{Nothing}
use Rattle.shadow.specs.Stored.{Processes, state_of}
use Rattle.shadow.specs.Committed.{Reserve}
use Rattle.notes.specs.declared.opening.Opening.{Opening}
use Rattle.notes.specs.declared.opening.Opening.TheVariants.{Kept}
use Rattle.notes.specs.Patches.{is_new, opening_at, or_kept, reopened}
use Rattle.shadow.specs.Laid.{AreReopened, IsReopened, reserves_of, settled}
use Rattle.notes.proofs.Laws.{first_absent, first_kept, later_kept, rest_sorted}

-- what is new is still to come
abbrev pub AreToCome : List (ℕ × Opening) → Numbers → Type 0
AreToCome openings s = (d : ℕ) → is_new (opening_at openings d) ≡ true
    → get s.places d ≡ Some (coming Nothing)

abbrev pub settled_if : Opening → Option Reserve → Option Reserve
settled_if opening r = cond (is_new opening) (settled r) r

reopened_none : (s : Numbers) → AreReopened [] s s
reopened_none s = record {
  same = record { root = refl; inodes = refl; rights = refl; staged = λ staged. staged };
  descriptions = λ d. refl;
  reserves = λ n. refl;
  counted = λ ps counted unheld ends. counted;
}

-- the first is changed
module _ (n : ℕ) (o : Opening) (rest : List (ℕ × Opening))
    (sorted : IsStrictlySortedBy nat_cmp (keys_of ((n, o) ∷ rest)))
    (s t : Numbers) (first : IsReopened n o s t) where
  abbrev whole : List (ℕ × Opening)
  whole = (n, o) ∷ rest

  at_first : opening_at whole n ≡ o
  at_first = ap or_kept (first_kept n o rest)

  at_later : (m : ℕ) → m ≢ n → opening_at whole m ≡ opening_at rest m
  at_later m away = ap or_kept (later_kept n o rest m away)

  no_more : opening_at rest n ≡ Kept
  no_more = ap or_kept (first_absent n o rest sorted)

  new_apart : (m : ℕ) → is_new (opening_at rest m) ≡ true → m ≢ n
  new_apart m new same = true_is_false
      (sym new ∙ ap (λ (m : ℕ). is_new (opening_at rest m)) same ∙ ap is_new no_more)

  new_whole : (m : ℕ) → is_new (opening_at rest m) ≡ true → is_new (opening_at whole m) ≡ true
  new_whole m new = ap is_new (at_later m (new_apart m new)) ∙ new

  -- and those behind it are still to come
  come_later : AreToCome whole s → AreToCome rest t
  come_later coming d new = first.places d (coming d (new_whole d new)) (new_apart d new)

  same_holders : (ps : Processes) (d : ℕ) → holders (state_of ps t) d ≡ holders (state_of ps s) d
  same_holders ps d = openings_change_lem.by_processes (state_of ps s) (state_of ps t) refl d

  reopened_first : (u : Numbers) → AreReopened rest t u → AreReopened whole s u
  reopened_first u later = record {
    same = record {
      root = later.same.root ∙ first.same.root;
      inodes = later.same.inodes ∙ first.same.inodes;
      rights = later.same.rights ∙ first.same.rights;
      staged = λ staged. later.same.staged (first.same.staged staged);
    };
    descriptions = λ d. elim (cases_eq d n) [
      | inl same ↦ subst (λ (d : ℕ).
          get (descriptions u) d ≡ reopened (opening_at whole d) (get (descriptions s) d))
          (sym same)
          (later.descriptions n ∙ ap (λ o. reopened o (get (descriptions t) n)) no_more ∙ first.here
          ∙ sym (ap (λ o. reopened o (get (descriptions s) n)) at_first))
      | inr away ↦ later.descriptions d ∙ ap (reopened (opening_at rest d)) (first.others d away)
          ∙ sym (ap (λ o. reopened o (get (descriptions s) d)) (at_later d away))
    ];
    reserves = λ d. elim (cases_eq d n) [
      | inl same ↦ subst (λ (d : ℕ).
          get (reserves_of u) d ≡ settled_if (opening_at whole d) (get (reserves_of s) d))
          (sym same)
          (later.reserves n ∙ ap (λ o. settled_if o (get (reserves_of t) n)) no_more ∙ first.reserve
          ∙ sym (ap (λ o. settled_if o (get (reserves_of s) n)) at_first))
      | inr away ↦ later.reserves d ∙ ap (settled_if (opening_at rest d)) (first.reserves d away)
          ∙ sym (ap (λ o. settled_if o (get (reserves_of s) d)) (at_later d away))
    ];
    counted = λ ps counted unheld ends.
        later.counted ps
        (first.counted ps counted (λ new. unheld n (ap is_new at_first ∙ new))
        (λ it new. ends n it (at_first ∙ new)))
        (λ d new. same_holders ps d ∙ unheld d (new_whole d new))
        (λ d it new pipe is. ends d it (at_later d (new_apart d (ap is_new new)) ∙ new) pipe
        (first.pipes it.inode pipe is));
  }

-- what is left of the changes can be made, and then all are made
pub record Reopens (start now : Numbers) (all rest : List (ℕ × Opening)) : Type 0 where
  pub coming : AreToCome rest now
  pub ends : (t : Numbers) → AreReopened rest now t → AreReopened all start t
  pub sorted : IsStrictlySortedBy nat_cmp (keys_of rest)

pub reopens_nothing : (start : Numbers) (all : List (ℕ × Opening)) → AreToCome all start
    → IsStrictlySortedBy nat_cmp (keys_of all) → Reopens start start all all
reopens_nothing start all coming sorted =
    record { coming = coming; ends = λ t h. h; sorted = sorted }

pub first_to_come : (n : ℕ) (o : Opening) (rest : List (ℕ × Opening)) (s : Numbers)
    → AreToCome ((n, o) ∷ rest) s → is_new o ≡ true → get s.places n ≡ Some (coming Nothing)
first_to_come n o rest s coming new =
    coming n (ap (λ o. is_new (or_kept o)) (first_kept n o rest) ∙ new)

pub reopens_on : (start now : Numbers) (all : List (ℕ × Opening)) (n : ℕ) (o : Opening)
    (rest : List (ℕ × Opening)) → Reopens start now all ((n, o) ∷ rest) → (after : Numbers)
    → IsReopened n o now after → Reopens start after all rest
reopens_on start now all n o rest reopens after first = record {
  coming = come_later n o rest reopens.sorted now after first reopens.coming;
  ends = λ t h. reopens.ends t (reopened_first n o rest reopens.sorted now after first t h);
  sorted = rest_sorted n o rest reopens.sorted;
}

pub all_reopened : (start now : Numbers) (all : List (ℕ × Opening)) → Reopens start now all []
    → AreReopened all start now
all_reopened start now all reopens = reopens.ends now (reopened_none now)
