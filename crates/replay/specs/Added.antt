-- What a checker was given, in order.
use Rattle.std.specs.Prelude.{ℕ, List, [], ◌∷◌, ◌++◌}
use Rattle.model.specs.Entries.{Entry}
use Rattle.model.specs.Moments.{Setup}
use Rattle.replay.specs.SoFar.{Checked}
use Rattle.replay.specs.declared.added.Added.{Added, Start, Process', Entry'}

-- one more process with this priority
abbrev pub with_process : Setup → ℕ → Setup
with_process setup priority =
    record { priorities = setup.priorities ++ priority ∷ []; bounds = setup.bounds }

abbrev pub setup_in : Added → Setup
setup_in (Start bounds) = record { priorities = []; bounds = bounds.value }
setup_in (Process' shape before priority) = with_process (setup_in before) priority.value
setup_in (Entry' shape before entry) = setup_in before

abbrev pub entries_in : Added → List Entry
entries_in (Start bounds) = []
entries_in (Process' shape before priority) = entries_in before
entries_in (Entry' shape before entry) = entries_in before ++ entry.value ∷ []

-- for the root of this number
abbrev pub so_far : ℕ → Added → Checked
so_far root added = record { root = root; setup = setup_in added; entries = entries_in added }
