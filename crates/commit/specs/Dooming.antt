-- What dooming does.
use Rattle.std.specs.Prelude.{ℕ, List, [], ◌∷◌, ◌==◌, if◌then◌else◌}
use Rattle.contention.specs.declared.Doomed.{Doomed}
use Rattle.commit.specs.Views.{View, gone_slot, idle_slot, live_slot, doomed_slot}

-- a live transaction is doomed, and its changes are gone
abbrev pub with_doom : Doomed → View → View
with_doom d (live_slot flags age changes) = doomed_slot d.cause flags age
with_doom d gone_slot = gone_slot
with_doom d idle_slot = idle_slot
with_doom d (doomed_slot cause flags age) = doomed_slot cause flags age

-- what q's view becomes when these are doomed, one after the other
abbrev pub with_dooms : List Doomed → ℕ → View → View
with_dooms [] q v = v
with_dooms (d ∷ ds) q v = with_dooms ds q (if q == d.pid then with_doom d v else v)
