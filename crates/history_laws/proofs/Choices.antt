-- Each operation that finds its places after a legal history has a right entry.
use Rattle.std.proofs.Common.{◌≡◌, ℕ, ◌+◌, ◌≤◌, inl, inr, arith}
use Rattle.std.proofs.lemmas.Bool.{cases_Bool}
use Rattle.model.specs.Forgetting.{Limit, limit_at}
use Rattle.model.specs.Moments.{idle, Moment, is_alive, bound, after, reserved}
use Rattle.call_laws.specs.WellFormed.{WellFormed}
use Rattle.call_laws.specs.CallLaws.{CallLaws}
use Rattle.history_laws.proofs.FromCallLaws.{FromCallLaws}
use Rattle.history_laws.specs.Choices.{RightEntriesExist, EndsFindPlaces}
use Rattle.history_laws.specs.Standing.{Standing}
use Rattle.history_laws.proofs.NewNumbers.{right_entry}
use Rattle.history_laws.proofs.Standing.{what_stands}

-- no process above the bound has a transaction
idle_above : (laws : CallLaws WellFormed) (limit : Limit) (m : Moment) → Standing limit m → (q : ℕ) → bound m ≤ q → m.phase q ≡ idle
idle_above laws limit m s q above = elim (cases_Bool (is_alive m.committed q)) [
  | inr dead ↦ s.phases.processes q dead
  | inl alive ↦ (let low : q ≤ m.committed.made = laws.alive_counted m.committed s.committed.well q alive in absurd (omega arith))
]

pub right_entries_exist : FromCallLaws RightEntriesExist
right_entries_exist laws root setup limit es legal pid op free =
    right_entry limit (after root setup es) pid (idle_above laws limit (after root setup es) (what_stands laws root setup limit es legal)) op free

pub ends_find_places : FromCallLaws EndsFindPlaces
ends_find_places laws root setup limit es legal pid op none =
    let m : Moment = after root setup es in
    let places : m.entries + reserved m ≤ limit_at limit m.entries = (what_stands laws root setup limit es legal).places in
    right_entries_exist laws root setup limit es legal pid op (omega (arith, none, places))
