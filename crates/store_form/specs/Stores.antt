-- What a store tells, and what that comes to.
use Rattle.std.specs.Prelude.{◌≡◌, ℕ, List, [], ◌∷◌, true, map, Result}
use Rattle.std.specs.List.{flat_map, AllByRecursion}
use Rattle.model.specs.State.{Kernel}
use Rattle.model.specs.Plan.{Errno}
use Rattle.model.specs.Calls.{Call, Answer}
use Rattle.model.specs.Steps.{Item, Run}
use Rattle.model.specs.Entries.{Entry}
use Rattle.model.specs.Moments.{Setup, start}
use Rattle.entry_codec.specs.Entries.{AreEntries, entries_bytes}
use Rattle.redo_records.specs.Changing.{changes}
use Rattle.redo_records.specs.Kept.{items_in}
use Rattle.store_form.specs.Setups.{setup_bytes, IsSetup}

-- An executed call as a store tells it: an item of the serial list without the numbers that it chose.
-- Another kernel that makes the call again may choose others.
pub record Told : Type 0 where
  pub pid : ℕ
  pub call : Call
  pub answer : Result Answer Errno

abbrev pub told_item : Item → Told
told_item it = record { pid = it.pid; call = it.call; answer = it.answer }

-- what entries of executed calls tell, in their order
abbrev pub told_of : List Entry → List Told
told_of es = map told_item (flat_map items_in es)

-- an entry of one executed call that can have changed something
abbrev pub IsOfChange : Entry → Type 0
IsOfChange e =
    (it : Item) × (items_in e ≡ it ∷ []) × (changes it.call it.answer ≡ true)

-- a redo record: entries of such calls, with each number in its range
pub record IsRecord (es : List Entry) : Type 0 where
  pub each : AllByRecursion IsOfChange es
  pub fits : AreEntries es

-- These payloads are a store of this setup, whose records tell these calls, one behind the other.
pub record IsStore (setup : Setup) (payloads : List (List ℕ)) (told : List Told) : Type 0 where
  pub is_setup : IsSetup setup
  pub records : List (List Entry)
  pub each : AllByRecursion IsRecord records
  pub bytes : payloads ≡ setup_bytes setup ∷ map entries_bytes records
  pub tell : told ≡ flat_map told_of records

-- A kernel of this setup comes to this state by these calls, each by its process and answered so,
-- whatever numbers are chosen for new objects.
pub record RunsTo (setup : Setup) (told : List Told) (state : Kernel) : Type 0 where
  pub items : List Item
  pub tell : map told_item items ≡ told
  pub run : Run (start 0 setup) items state
