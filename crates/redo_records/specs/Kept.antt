-- What a recorder keeps of a process: nothing while it is in no transaction, else the entries of its
-- changing calls while that lives, and that it is doomed.
use Rattle.std.specs.Prelude.{◌≡◌, ℕ, ◌-◌, ◌<◌, List, [], ◌∷◌, ◌++◌, Bool, true, false, not, ⊤}
use Rattle.std.specs.Prelude.{Option, Some, None, if◌then◌else◌}
use Rattle.model.specs.Steps.{Item}
use Rattle.model.specs.Entries.{Op, Do, Begin, Reply, Answers, Refuses, Begun, Committed}
use Rattle.model.specs.Entries.{GivenUp, Aborted, Busy, InTransaction, NotInTransaction, HistoryFull}
use Rattle.model.specs.Entries.{NoMemory, NoProcess, Entry}
use Rattle.model.specs.Moments.{Status, gone, idle, live, doomed, run_by}
use Rattle.model.specs.Legal.{items}
use Rattle.redo_records.specs.Changing.{only_looks, changing}
use Rattle.redo_records.specs.declared.transaction.Transaction.{Transaction}
use Rattle.redo_records.specs.declared.transaction.Transaction.TheVariants.{Live, Doomed}
use Rattle.redo_records.specs.declared.recorder.Standing.{Standing}
use Rattle.redo_records.specs.declared.recorder.Standing.TheVariants.{Idle, Lives, IsDoomed}

-- the call of an entry, if it was executed
abbrev pub items_in : Entry → List Item
items_in e = items e.pid (run_by idle e.op e.reply e.chosen)

-- entries of these items, each of one
abbrev pub AreOf : List Item → List Entry → Type 0
AreOf [] [] = ⊤
AreOf (it ∷ its) (e ∷ es) = (items_in e ≡ it ∷ []) × AreOf its es
AreOf _ _ = ⊥

-- what is kept of a process with this number and status
abbrev pub IsKept : ℕ → Status → Option Transaction → Type 0
IsKept pid idle None = ⊤
IsKept pid (live flags age calls) (Some (Live kept)) = AreOf (changing (items pid calls)) kept.entries
IsKept pid (doomed cause flags age) (Some Doomed) = ⊤
IsKept pid _ _ = ⊥

-- what a recorder tells of a process, by its status and by what is kept of it
abbrev pub standing_of : Status → Standing
standing_of gone = Idle
standing_of idle = Idle
standing_of (live flags age calls) = Lives
standing_of (doomed cause flags age) = IsDoomed

abbrev pub kept_standing : Option Transaction → Standing
kept_standing None = Idle
kept_standing (Some (Live kept)) = Lives
kept_standing (Some Doomed) = IsDoomed

-- the same entry, but for whom it doomed
abbrev pub without_dooms : Entry → Entry
without_dooms e = record e { doomed = [] }

-- whether an entry is of a call that can have changed the state
abbrev pub is_change : Op → Reply → Bool
is_change (Do call) (Answers answer) = not (only_looks call)
is_change op reply = false

-- room for one call more, where there is a list for it
abbrev pub HasPlace : Option Transaction → Type 0
HasPlace (Some (Live kept)) = 0 < kept.room
HasPlace (Some Doomed) = ⊤
HasPlace None = ⊤

-- room for a transaction that begins, where nothing is kept of its process
abbrev pub HasSlot : ℕ → Option Transaction → Type 0
HasSlot spare None = 0 < spare
HasSlot spare (Some transaction) = ⊤

-- one call more
abbrev pub with_call : Entry → Transaction → Transaction
with_call e (Live kept) = Live (record { entries = kept.entries ++ e ∷ []; room = kept.room - 1 })
with_call e Doomed = Doomed

-- what is kept, whatever the room
abbrev pub without_room : Transaction → Transaction
without_room (Live kept) = Live (record { entries = kept.entries; room = 0 })
without_room Doomed = Doomed

-- a transaction that has begun, or begun anew
abbrev pub no_calls : Transaction
no_calls = Live (record { entries = []; room = 0 })

-- where one is kept, this is kept from now on
abbrev pub in_place : Transaction → Option Transaction → Option Transaction
in_place next (Some former) = Some next
in_place next None = None

abbrev pub called : Entry → Option Transaction → Option Transaction
called e (Some transaction) = Some (with_call e transaction)
called e None = None

abbrev pub settled_kept : Bool → Option Transaction → Option Transaction
settled_kept again kept = if again then in_place no_calls kept else None

abbrev pub begun_kept : Op → Option Transaction → Option Transaction
begun_kept (Begin flags) kept = Some no_calls
begun_kept op kept = kept

-- after an entry of the process itself
abbrev pub own_kept : Entry → Reply → Option Transaction → Option Transaction
own_kept e (Answers a) kept = if is_change e.op (Answers a) then called e kept else kept
own_kept e (Refuses x) kept = kept
own_kept e Begun kept = begun_kept e.op kept
own_kept e Committed kept = None
own_kept e (GivenUp again) kept = settled_kept again kept
own_kept e (Aborted why again) kept = settled_kept again kept
own_kept e (Busy cause) kept = kept
own_kept e InTransaction kept = kept
own_kept e NotInTransaction kept = kept
own_kept e HistoryFull kept = kept
own_kept e NoMemory kept = kept
own_kept e NoProcess kept = kept

-- the entries of a record that an entry completes, if it does
abbrev pub plain_told : Entry → Bool → Option Transaction → List (List Entry)
plain_told e true None = (e ∷ []) ∷ []
plain_told e _ _ = []

abbrev pub any_told : List Entry → List (List Entry)
any_told [] = []
any_told (e ∷ es) = (e ∷ es) ∷ []

abbrev pub list_told : Option Transaction → List (List Entry)
list_told (Some (Live kept)) = any_told kept.entries
list_told (Some Doomed) = []
list_told None = []

abbrev pub own_told : Entry → Reply → Option Transaction → List (List Entry)
own_told e (Answers a) kept = plain_told e (is_change e.op (Answers a)) kept
own_told e Committed kept = list_told kept
own_told e _ kept = []
