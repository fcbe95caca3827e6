-- Where a process stands, in short.
use Rattle.std.specs.Prelude.{◌≡◌, ℕ, List}
use Rattle.model.specs.Entries.{BeginFlags, Cause}
use Rattle.model.specs.Effects.{Effect}
use Rattle.commit.specs.Views.{View, gone_slot, idle_slot, live_slot, doomed_slot}
use Rattle.commit.specs.declared.process_state.Standing.{Standing}
use Rattle.commit.specs.declared.process_state.Standing.TheVariants.{Gone, Idle, Live, Doomed}

pub record IsLiveSlot (v : View) (flags : BeginFlags) (age : ℕ) : Type 0 where
  pub changes : List Effect
  pub is : v ≡ live_slot flags age changes

pub record IsDoomedSlot (v : View) (flags : BeginFlags) (age : ℕ) : Type 0 where
  pub cause : Cause
  pub is : v ≡ doomed_slot cause flags age

abbrev pub IsStandingOf : Standing → View → Type 0
IsStandingOf Gone v = v ≡ gone_slot
IsStandingOf Idle v = v ≡ idle_slot
IsStandingOf (Live flags age) v = IsLiveSlot v flags age
IsStandingOf (Doomed flags age) v = IsDoomedSlot v flags age
