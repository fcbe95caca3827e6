-- How many views are of transactions.
use Rattle.std.proofs.Common.{◌≡◌, ℕ, zero, suc, ◌+◌, ◌≤◌, List, Result, Ok, Err, IfOk, length, refl, sym, ◌∙◌, ap, cond, inl, inr, arith}
use Rattle.std.specs.Result.{OnErr}
use Rattle.std.specs.List.{count_by, sum_by}
use Rattle.std.proofs.lemmas.List.Recursion.{is_count_by}
use Rattle.std.proofs.lemmas.Bool.{cases_lt}
use Rattle.std.proofs.lemmas.List.{get_or_past}
use Rattle.std.proofs.lemmas.List.Sums.{sum_by-cons}
use Rattle.model.specs.Changes.{Edit}
use Rattle.model.specs.Effects.{Effect}
use Rattle.notes.specs.Log.{effect}
use Rattle.commit.specs.Edits.{with_change}
use Rattle.commit.specs.ProcessStates.{slot_view, views, slot_at, AreFirstSlots, Sets, weight}
use Rattle.commit.specs.Views.{View, gone_slot, idle_slot, live_slot, doomed_slot, is_within, view_at}
use Rattle.commit.specs.declared.process_state.ProcessState.{ProcessState}
use Rattle.commit.specs.declared.process_state.ProcessState.TheVariants.{Gone}
use Rattle.commit.proofs.Claims.{sum_changed, one_of_sum, sum_none}
use Rattle.commit.proofs.Showing.{at_is, shows}

one_more : (x : View) (n : ℕ) → weight x + n ≡ cond (is_within x) (1 + n) n
one_more gone_slot n = omega arith
one_more idle_slot n = omega arith
one_more (live_slot flags age changes) n = omega arith
one_more (doomed_slot cause flags age) n = omega arith

sum_is_count : (xs : List View) → sum_by weight xs ≡ count_by is_within xs
sum_is_count = is_count_by (sum_by weight) is_within refl (λ x xs. sum_by-cons weight x xs ∙ one_more x (sum_by weight xs))

-- one slot is set
pub count_set : (old new : List ProcessState) (p : ℕ) (v w : View) → Sets old new p v → w ≡ slot_at old p → count_by is_within (views new) + weight w ≡ count_by is_within (views old) + weight v
count_set old new p v w sets is =
    let s = shows old new p v sets in
    let sums : sum_by weight (views new) + weight (view_at (views old) p) ≡ sum_by weight (views old) + weight (view_at (views new) p) =
    sum_changed weight (views old) (views new) p s.count (λ q differs. ap weight (s.others q differs)) in
    let own : weight (view_at (views new) p) ≡ weight v = ap weight s.own in
    let before : weight (view_at (views old) p) ≡ weight w = ap weight (at_is old p ∙ sym is) in
    let first = sum_is_count (views new) in
    let second = sum_is_count (views old) in
    omega (arith, sums, own, before, first, second)

-- one slot counts no more than all
pub one_of_count : (slots : List ProcessState) (p : ℕ) (w : View) → w ≡ slot_at slots p → weight w ≤ count_by is_within (views slots)
one_of_count slots p w is =
    let one : weight (view_at (views slots) p) ≤ sum_by weight (views slots) = one_of_sum weight (views slots) p refl in
    let before : weight (view_at (views slots) p) ≡ weight w = ap weight (at_is slots p ∙ sym is) in
    let all = sum_is_count (views slots) in
    omega (arith, one, before, all)

-- the first slots are of no transaction
pub none_within : (slots : List ProcessState) (count : ℕ) → length slots ≡ suc count → AreFirstSlots slots count → 0 ≡ count_by is_within (views slots)
none_within slots count is first = sym (sym (sum_is_count (views slots)) ∙ sum_none weight (views slots) each)
  where
    each : (q : ℕ) → weight (view_at (views slots) q) ≡ 0
    each zero = ap weight (at_is slots 0 ∙ first.none)
    each (suc q) = elim (cases_lt q count) [
      | inl below ↦ ap weight (at_is slots (suc q) ∙ first.made q below)
      | inr above ↦ ap weight (at_is slots (suc q) ∙ ap slot_view (get_or_past slots (suc q) Gone (omega (arith, is))))
    ]

same_weight : (d : Effect) (v : View) → weight (with_change d v) ≡ weight v
same_weight d gone_slot = refl
same_weight d idle_slot = refl
same_weight d (live_slot flags age changes) = refl
same_weight d (doomed_slot cause flags age) = refl

set_alike : (old new : List ProcessState) (p : ℕ) (v : View) → Sets old new p v → weight v ≡ weight (slot_at old p) → count_by is_within (views old) ≡ count_by is_within (views new)
set_alike old new p v sets same = let c = count_set old new p v (slot_at old p) sets refl in omega (arith, c, same)

-- a change, done or refused, leaves its process in its transaction
pub count_edited : {E : Type 0} (r : Result (List ℕ) E) (old new : List ProcessState) (p : ℕ) (edits : List Edit) → IfOk r (λ chosen. Sets old new p (with_change (effect chosen edits) (slot_at old p)))
    → OnErr r (Sets old new p (slot_at old p)) → count_by is_within (views old) ≡ count_by is_within (views new)
count_edited (Ok chosen) old new p edits ok err = set_alike old new p (with_change (effect chosen edits) (slot_at old p)) ok (same_weight (effect chosen edits) (slot_at old p))
count_edited (Err e) old new p edits ok err = set_alike old new p (slot_at old p) err refl
