-- Changes of calls.
use Rattle.std.specs.Prelude.{◌≡◌, ℕ, false, List, [], ◌∷◌, ◌++◌, length}
use Rattle.std.specs.List.{AllByRecursion, flat_map, sum_by}
use Rattle.model.specs.Changes.{Edit, news}
use Rattle.model.specs.Steps.{IsNowhere, AllDifferent}
use Rattle.model.specs.Moments.{is_in}
use Rattle.model.specs.Effects.{Effect}
use Rattle.commit.specs.Views.{View, Shown, gone_slot, idle_slot, live_slot, doomed_slot}
use Rattle.commit.specs.Views.{view_at, changes_in}

-- the numbers of what changes have made
abbrev pub made_by : List Effect → List ℕ
made_by ds = flat_map (λ d. d.chosen) ds

-- one change more
abbrev pub with_change : Effect → View → View
with_change d (live_slot flags age changes) = live_slot flags age (changes ++ d ∷ [])
with_change d gone_slot = gone_slot
with_change d idle_slot = idle_slot
with_change d (doomed_slot cause flags age) = doomed_slot cause flags age

-- New numbers for what these edits make: as many as they need, all different, of no object that is
-- there, and of none that a live transaction has made.
pub record AreNew (old : Shown) (made : List Edit) (chosen : List ℕ) : Type 0 where
  pub count : length chosen ≡ sum_by news made
  pub unmade : AllByRecursion (λ n. (q : ℕ)
      → is_in n (made_by (changes_in (view_at old.slots q))) ≡ false) chosen
  pub different : AllDifferent chosen
  pub nowhere : AllByRecursion (IsNowhere old.stable.state) chosen
