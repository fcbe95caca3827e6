-- When all changes are made and what nothing leads to is gone, the state is tidied and sound, and
-- keeps all that was not claimed.
use Rattle.std.proofs.Common.{◌≡◌, ◌≢◌, ◌⊎◌, ℕ, ◌+◌, ◌<◌, ◌==◌, true, cond, List, [], ◌∷◌, ◌++◌}
use Rattle.std.proofs.Common.{Option, Some, None, refl, sym, ap, subst, ◌∙◌, inl, inr, arith}
use Rattle.std.proofs.Common.{eq-eqb}
use Rattle.std.proofs.lemmas.Bool.{cases_eq}
use Rattle.std.proofs.lemmas.List.Sums.{sum_by-cons, sum_by-append}
use Rattle.std.specs.Map.{keys_of}
use Rattle.model.specs.FiniteMap.{get}
use Rattle.model.specs.State.{Kernel, mapped}
use Rattle.model.specs.Changes.{at_offset, is_held, is_reached, tidy}
use Rattle.model.specs.Effects.{Effect, all_done}
use Rattle.fdtable.specs.Patches.{Given}
use Rattle.call_laws.specs.WellFormed.{WellFormed}
use Rattle.call_laws.proofs.Laws.{calls_are_lawful_lem, not_none, some_same, true_is_false}
use Rattle.freeing_laws.specs.Counts.{times}
use Rattle.freeing_laws.specs.Left.{AreLeft, HasSlot}
use Rattle.freeing_laws.specs.Sweep.{AreParented, AreSet, all_closed, free_inodes}
use Rattle.freeing_laws.proofs.Laws.{sweep_is_tidy_lem}
use Rattle.freeing_laws.proofs.Left.{left_is_tidy_lem}
use Rattle.store.specs.Numbers.{Numbers}
use Rattle.notes.specs.declared.opening.Opening.{Opening}
use Rattle.notes.specs.declared.opening.Opening.TheVariants.{Kept, New, Moved}
use Rattle.shadow.specs.Claims.{Claim, claimed}
use Rattle.shadow.specs.Laid.{AreReopened, AreReslotted, Frees, given_in, kept_in, table_in}
use Rattle.notes.specs.Patches.{Patches, is_new, kept_at, opening_at, or_kept, reopened}
use Rattle.shadow.specs.Stored.{Processes, Sound, numbered, state_of}
use Rattle.shadow.proofs.committing.CommitStates.{CanCommit, HasAll, HasInodes}
use Rattle.shadow.proofs.shared.SoundnessLemmas.{tidied_of}
use Rattle.notes.proofs.Laws.{later_kept}
use Rattle.shadow.proofs.freeing.RemovalSteps.{closed_append}

-- what stands in one of two lists stands in both together
has_left : (n : ℕ) (ms ns : List ℕ) → 0 < times n ms → 0 < times n (ms ++ ns)
has_left n ms ns has =
    let both : times n (ms ++ ns) ≡ times n ms + times n ns =
    sum_by-append (λ v. cond (v == n) 1 0) ms ns in
    omega arith

has_right : (n : ℕ) (ms ns : List ℕ) → 0 < times n ns → 0 < times n (ms ++ ns)
has_right n ms ns has =
    let both : times n (ms ++ ns) ≡ times n ms + times n ns =
    sum_by-append (λ v. cond (v == n) 1 0) ms ns in
    omega arith

-- what is first stands in a list, and so does what stands in the rest
has_first : (n m : ℕ) (ms : List ℕ) → m ≡ n → 0 < times n (m ∷ ms)
has_first n m ms same =
    let both : times n (m ∷ ms) ≡ cond {A = ℕ} (m == n) 1 0 + times n ms =
    sum_by-cons (λ v. cond (v == n) 1 0) m ms in
    let one : cond {A = ℕ} (m == n) 1 0 ≡ 1 = ap (λ b. cond {A = ℕ} b 1 0) (eq-eqb m n same) in
    omega arith

has_rest : (n m : ℕ) (ms : List ℕ) → 0 < times n ms → 0 < times n (m ∷ ms)
has_rest n m ms has =
    let both : times n (m ∷ ms) ≡ cond {A = ℕ} (m == n) 1 0 + times n ms =
    sum_by-cons (λ v. cond (v == n) 1 0) m ms in
    omega arith

-- a new description stands among the openings
pub new_is_key : (openings : List (ℕ × Opening)) (d : ℕ) → is_new (opening_at openings d) ≡ true
    → 0 < times d (keys_of openings)
new_is_key [] d is = absurd (true_is_false (sym is))
new_is_key ((n, opening) ∷ rest) d is = elim (cases_eq n d) [
  | inl same ↦ has_first d n (keys_of rest) same
  | inr away ↦ (
      let later : kept_at ((n, opening) ∷ rest) d ≡ kept_at rest d =
      later_kept n opening rest d (λ e. away (sym e)) in
      has_rest d n (keys_of rest)
      (new_is_key rest d (ap (λ o. is_new (or_kept o)) (sym later) ∙ is)))
]

module _ (ps qs : Processes) (s after last : Numbers) (ds : List Effect) (p : Patches)
    (former : List (ℕ × Given)) (can : CanCommit ps s ds p)
    (slots : AreReslotted p.slots former ps qs after last) (all : HasAll ps qs s last ds) where
  abbrev before : Kernel
  before = state_of ps s

  abbrev done : Kernel
  done = all_done ds before

  abbrev closing : List ℕ
  closing = given_in former ++ keys_of p.openings

  -- a slot that gives a description gives it still, or has let it go
  still_held : (pid f d : ℕ) → get (table_in (get (numbered qs) pid)) f ≡ Some d
      → is_held done d ≡ true
  still_held pid f d is =
      ap (λ (k : Kernel). is_held k d) (sym all.state)
      ∙ left_is_tidy_lem.holds (state_of qs last) pid f d (record { gives = is })

  of_slot : (pid f d : ℕ) → get (table_in (get (numbered ps) pid)) f ≡ Some d
      → (is_held done d ≡ true) ⊎ (0 < times d (given_in former))
  of_slot pid f d was = by_now (get (table_in (get (numbered qs) pid)) f) refl
    where
      by_now : (o : Option ℕ) → get (table_in (get (numbered qs) pid)) f ≡ o
          → (is_held done d ≡ true) ⊎ (0 < times d (given_in former))
      by_now None e = inr (slots.let_go pid f d was (λ is. not_none d (sym is ∙ e)))
      by_now (Some m) e = elim (cases_eq m d) [
        | inl same ↦ inl (still_held pid f d (e ∙ ap Some same))
        | inr away ↦ inr (slots.let_go pid f d was (λ is. away (some_same m d (sym e ∙ is))))
      ]

  of_before : (d : ℕ) → get before.descriptions d ≢ None
      → (is_held done d ≡ true) ⊎ (0 < times d closing)
  of_before d there =
      let slot : HasSlot before d =
      left_is_tidy_lem.held before d (tidied_of ps s can.sound) there in
      elim (of_slot slot.pid slot.descriptor d slot.is.gives) [
        | inl held ↦ inl held
        | inr has ↦ inr (has_left d (given_in former) (keys_of p.openings) has)
      ]

  description_left : (d : ℕ) → get done.descriptions d ≢ None
      → (is_held done d ≡ true) ⊎ (0 < times d closing)
  description_left d there =
      by_opening (opening_at p.openings d) refl
      (λ none. there (can.agrees.descriptions before d ∙ none))
    where
      by_opening : (o : Opening) → opening_at p.openings d ≡ o
          → reopened o (get before.descriptions d) ≢ None
          → (is_held done d ≡ true) ⊎ (0 < times d closing)
      by_opening Kept e there = of_before d there
      by_opening (Moved place) e there =
          of_before d (λ none. there (ap (mapped (at_offset place)) none))
      by_opening (New it) e there =
          inr (has_right d (given_in former) (keys_of p.openings)
          (new_is_key p.openings d (ap is_new e)))

  inode_left : (n : ℕ) → get done.inodes n ≢ None
      → (is_reached done n ≡ true) ⊎ (0 < times n p.unnamed_inodes)
  inode_left n there =
      elim (left_is_tidy_lem.inodes before ds (tidied_of ps s can.sound) can.fits n there) [
        | inl is ↦ inl is
        | inr has ↦ inr (subst (λ ns. 0 < times n ns) can.agrees.unnamed_inodes has)
      ]

  pub are_left : AreLeft closing p.unnamed_inodes done
  are_left = record {
    parents = subst AreParented all.state all.holds.parented;
    rights = subst AreSet all.state all.holds.set;
    descriptions = description_left;
    inodes = inode_left;
  }

  pub done_well : WellFormed done
  done_well = sweep_is_tidy_lem.well ds before can.sound.well can.fits

-- after the last step
pub cleared : {ps qs : Processes} {s mid after last one two three : Numbers} {ds : List Effect}
    {p : Patches} {former : List (ℕ × Given)}
    → CanCommit ps s ds p → HasInodes ps s mid ds p → AreReopened p.openings mid after
    → AreReslotted p.slots former ps qs after last → HasAll ps qs s last ds
    → Frees (all_closed (given_in former)) qs last one
    → Frees (all_closed (keys_of p.openings)) qs one two
    → Frees (free_inodes p.unnamed_inodes) qs two three
    → Sound qs three × (state_of qs three ≡ tidy (all_done ds (state_of ps s)))
    × ((c : Claim) → kept_in three c + claimed c ds ≡ kept_in s c)
cleared {ps} {qs} {s} {mid} {after} {last} {one} {two} {three} {ds} {p} {former}
    can inodes reopened slots all first second third =
    (sound, state, kept)
  where
    done : Kernel
    done = all_done ds (state_of ps s)

    state : state_of qs three ≡ tidy done
    state =
        third.state
        ∙ ap (free_inodes p.unnamed_inodes) (second.state
        ∙ ap (all_closed (keys_of p.openings)) (first.state
        ∙ ap (all_closed (given_in former)) all.state)
        ∙ sym (closed_append (given_in former) (keys_of p.openings) done))
        ∙ left_is_tidy_lem.closed (given_in former ++ keys_of p.openings) p.unnamed_inodes done
        (are_left ps qs s after last ds p former can slots all)

    well : WellFormed done
    well = done_well ps qs s after last ds p former can slots all

    sound : Sound qs three
    sound = record {
      root = third.holds.root;
      well = subst WellFormed (sym state) (calls_are_lawful_lem.well_tidy done well);
      tidied =
          subst (λ (k : Kernel). tidy k ≡ k) (sym state)
          (calls_are_lawful_lem.tidy_twice done well);
      staged = third.holds.staged;
      counted = third.holds.counted;
    }

    kept : (c : Claim) → kept_in three c + claimed c ds ≡ kept_in s c
    kept c = ap (λ m. m + claimed c ds) (third.kept c ∙ second.kept c ∙ first.kept c) ∙ all.kept c
