-- What noting one thing changes of what is kept of descriptions and of slots.
use Rattle.std.specs.Prelude.{◌≡◌, ◌≢◌, ℕ, Bool, true, List, [], ◌∷◌, Option, Some, None, ⊤}
use Rattle.model.specs.FiniteMap.{get}
use Rattle.model.specs.State.{Description, Process, mapped}
use Rattle.model.specs.Changes.{at_offset, or_new, with_slot, without_slot}
use Rattle.fdtable.specs.Pages.{HasRoom}
use Rattle.fdtable.specs.Patches.{Given}
use Rattle.notes.specs.declared.opening.Opening.{Opening}
use Rattle.notes.specs.Patches.{is_new, kept_at, opening_at, reopened, reslotted}

-- the description is this one from now on, which is new; and it has this offset
pub record IsOpened (it : Description) (old new : Opening) : Type 0 where
  pub over : (o : Option Description) → reopened new o ≡ Some it
  pub made : is_new new ≡ true

pub record IsMoved (place : ℕ) (old new : Opening) : Type 0 where
  pub over : (o : Option Description) → reopened new o ≡ mapped (at_offset place) (reopened old o)
  pub made : is_new new ≡ is_new old

-- At one number it is so, all others are as before, and places stay.
pub record AtOpening (d : ℕ) (R : Opening → Opening → Type 0) (old new : List (ℕ × Opening))
    : Type 0 where
  pub here : R (opening_at old d) (opening_at new d)
  pub others : (e : ℕ) → e ≢ d → opening_at new e ≡ opening_at old e
  pub places : (e : ℕ) → kept_at old e ≢ None → kept_at new e ≢ None

-- all is as before, and places stay
pub record SameOpenings (old new : List (ℕ × Opening)) : Type 0 where
  pub each : (d : ℕ) → opening_at new d ≡ opening_at old d
  pub places : (d : ℕ) → kept_at old d ≢ None → kept_at new d ≢ None

-- a slot of a process gives this from now on, or nothing
abbrev pub slot_noted : ℕ → Option ℕ → Option Process → Option Process
slot_noted f (Some d) o = Some (with_slot f d (or_new o))
slot_noted f None o = Some (without_slot f (or_new o))

pub record AtSlots (pid f : ℕ) (given : Option ℕ) (old new : List (ℕ × Given)) : Type 0 where
  pub here : (o : Option Process)
      → reslotted (kept_at new pid) o ≡ slot_noted f given (reslotted (kept_at old pid) o)
  pub others : (q : ℕ) → q ≢ pid → kept_at new q ≡ kept_at old q
  pub places : (q : ℕ) → kept_at old q ≢ None → kept_at new q ≢ None

pub record SameSlots (old new : List (ℕ × Given)) : Type 0 where
  pub each : (pid : ℕ) (o : Option Process)
      → reslotted (kept_at new pid) o ≡ reslotted (kept_at old pid) o
  pub places : (pid : ℕ) → kept_at old pid ≢ None → kept_at new pid ≢ None

-- each number stands once
abbrev pub AreOnce : {X : Type 0} → List (ℕ × X) → Type 0
AreOnce [] = ⊤
AreOnce (e ∷ es) = (kept_at es e.0 ≡ None) × AreOnce es

-- there is room for each descriptor that is changed of a process, at the same place
abbrev pub AreRoomy : List (ℕ × Given) → List (List Bool) → Type 0
AreRoomy [] rooms = ⊤
AreRoomy (e ∷ es) [] = ⊥
AreRoomy (e ∷ es) (room ∷ rooms) =
    ((f : ℕ) → get e.1 f ≢ None → HasRoom room f) × AreRoomy es rooms
