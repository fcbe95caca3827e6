-- What the slots of the processes show.
use Rattle.std.specs.Prelude.{◌≡◌, ◌≢◌, ℕ, suc, ◌<◌, List, get_or, length, map, if◌then◌else◌}
use Rattle.commit.specs.Views.{View, gone_slot, idle_slot, live_slot, doomed_slot, is_within}
use Rattle.commit.specs.declared.process_state.ProcessState.{ProcessState}
use Rattle.commit.specs.declared.process_state.ProcessState.TheVariants.{Gone, Idle, Live, Doomed}

-- what a slot shows
abbrev pub slot_view : ProcessState → View
slot_view Gone = gone_slot
slot_view Idle = idle_slot
slot_view (Live t) = live_slot t.flags t.age t.shadow
slot_view (Doomed d) = doomed_slot d.cause d.flags d.age

abbrev pub views : List ProcessState → List View
views slots = map slot_view slots

abbrev pub slot_at : List ProcessState → ℕ → View
slot_at slots q = slot_view (get_or slots q Gone)

-- one process's slot shows this now, and the others' as before
pub record Sets (old new : List ProcessState) (pid : ℕ) (v : View) : Type 0 where
  pub count : length new ≡ length old
  pub own : slot_at new pid ≡ v
  pub others : (q : ℕ) → q ≢ pid → slot_at new q ≡ slot_at old q

-- the first slots: of no process, and then of so many idle ones
pub record AreFirstSlots (slots : List ProcessState) (count : ℕ) : Type 0 where
  pub none : slot_at slots 0 ≡ gone_slot
  pub made : (q : ℕ) → q < count → slot_at slots (suc q) ≡ idle_slot

-- how many transactions a view is of: one or none
abbrev pub weight : View → ℕ
weight v = if is_within v then 1 else 0
