-- Views are those of the slots.
use Rattle.std.proofs.Common.{◌≡◌, ℕ, zero, suc, List, [], ◌∷◌, ◌++◌, length, refl, sym, ◌∙◌, ap, subst, eqb, cond, true, inl, inr, arith}
use Rattle.std.proofs.lemmas.Bool.{cases_Bool, eqb-true, eqb-false, false≢true}
use Rattle.std.proofs.lemmas.List.{get_or_past}
use Rattle.std.proofs.lemmas.Bool.{cases_lt}
use Rattle.model.specs.Effects.{Effect}
use Rattle.contention.specs.declared.Doomed.{Doomed}
use Rattle.commit.specs.Edits.{with_change}
use Rattle.commit.specs.ProcessStates.{slot_view, views, slot_at, Sets, AreFirstSlots}
use Rattle.commit.specs.Dooming.{with_doom, with_dooms}
use Rattle.commit.specs.Views.{View, gone_slot, idle_slot, live_slot, doomed_slot, view_at, changes_in, is_live_slot, Shows, SameViews, AreFirst}
use Rattle.commit.specs.declared.process_state.ProcessState.{ProcessState}
use Rattle.commit.specs.declared.process_state.ProcessState.TheVariants.{Gone}

pub count_is : (slots : List ProcessState) → length (views slots) ≡ length slots
count_is [] = refl
count_is (s ∷ slots) = ap suc (count_is slots)

pub at_is : (slots : List ProcessState) (q : ℕ) → view_at (views slots) q ≡ slot_at slots q
at_is [] q = refl
at_is (s ∷ slots) zero = refl
at_is (s ∷ slots) (suc q) = at_is slots q

-- where one slot is set, one view is
pub shows : (old new : List ProcessState) (pid : ℕ) (v : View) → Sets old new pid v → Shows (views old) (views new) pid v
shows old new pid v sets = record {
  count = count_is new ∙ sets.count ∙ sym (count_is old);
  own = at_is new pid ∙ sets.own;
  others = λ q differs. at_is new q ∙ sets.others q differs ∙ sym (at_is old q);
}

-- a slot is set twice
pub sets_again : (old mid new : List ProcessState) (p : ℕ) (v w : View) → Sets old mid p v → Sets mid new p w → Sets old new p w
sets_again old mid new p v w first second = record { count = second.count ∙ first.count; own = second.own; others = λ q differs. second.others q differs ∙ first.others q differs }

-- a slot is set to what it was
pub same_views : (old new : List ProcessState) (pid : ℕ) → Sets old new pid (slot_at old pid) → SameViews (views old) (views new)
same_views old new pid sets = record {
  count = count_is new ∙ sets.count ∙ sym (count_is old);
  each = λ q. at_is new q ∙ by q ∙ sym (at_is old q);
} where
  by : (q : ℕ) → slot_at new q ≡ slot_at old q
  by q = elim (cases_Bool (eqb q pid)) [
    | inl same ↦ subst (λ x. slot_at new x ≡ slot_at old x) (sym (eqb-true q pid same)) sets.own
    | inr differs ↦ sets.others q (eqb-false q pid differs)
  ]

pub first_views : (slots : List ProcessState) (count : ℕ) → AreFirstSlots slots count → AreFirst (views slots) count
first_views slots count first = record { none = at_is slots 0 ∙ first.none; made = λ q small. at_is slots (suc q) ∙ first.made q small }

-- dooming one
pub dooms : (old new : List ProcessState) (d : Doomed) → Sets old new d.pid (with_doom d (slot_at old d.pid)) → (q : ℕ) → view_at (views new) q ≡ with_dooms (d ∷ []) q (view_at (views old) q)
dooms old new d sets q = elim (cases_Bool (eqb q d.pid)) [
  | inl is ↦ at_is new q ∙ subst (λ x. slot_at new x ≡ with_doom d (slot_at old x)) (sym (eqb-true q d.pid is)) sets.own ∙ ap (with_doom d) (sym (at_is old q))
      ∙ sym (ap (λ b. cond b (with_doom d (view_at (views old) q)) (view_at (views old) q)) is)
  | inr is ↦ at_is new q ∙ sets.others q (eqb-false q d.pid is) ∙ sym (at_is old q) ∙ sym (ap (λ b. cond b (with_doom d (view_at (views old) q)) (view_at (views old) q)) is)
]

pub nothing_left : (d : Doomed) (v : View) → changes_in (with_doom d v) ≡ []
nothing_left d gone_slot = refl
nothing_left d idle_slot = refl
nothing_left d (live_slot flags age changes) = refl
nothing_left d (doomed_slot cause flags age) = refl

-- one change more
pub live_push : (d : Effect) (v : View) → is_live_slot v ≡ true → changes_in (with_change d v) ≡ changes_in v ++ d ∷ []
live_push d (live_slot flags age changes) live = refl
live_push d gone_slot live = absurd (false≢true live)
live_push d idle_slot live = absurd (false≢true live)
live_push d (doomed_slot cause flags age) live = absurd (false≢true live)

-- the first slots have no changes
pub none_changed : (slots : List ProcessState) (count : ℕ) → length slots ≡ suc count → AreFirstSlots slots count → (q : ℕ) → changes_in (view_at (views slots) q) ≡ []
none_changed slots count is first zero = ap changes_in (at_is slots 0 ∙ first.none)
none_changed slots count is first (suc q) = elim (cases_lt q count) [
  | inl below ↦ ap changes_in (at_is slots (suc q) ∙ first.made q below)
  | inr above ↦ ap changes_in (at_is slots (suc q) ∙ ap slot_view (get_or_past slots (suc q) Gone (omega (arith, is))))
]
