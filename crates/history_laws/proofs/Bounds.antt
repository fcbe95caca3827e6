-- The bounds stay what they were at the start.
use Rattle.std.proofs.Common.{◌≡◌, List, [], ◌∷◌, refl, ◌∙◌}
use Rattle.model.specs.Entries.{Entry}
use Rattle.model.specs.Moments.{Moment, after, after_from, next, at_start, status, run_by, calls_at}
use Rattle.call_laws.proofs.Laws.{the_bounds_stay}
use Rattle.history_laws.specs.Limits.{BoundsAreGiven}

-- no entry changes them
bounds_after : (m : Moment) (es : List Entry) → (after_from m es).committed.bounds ≡ m.committed.bounds
bounds_after m [] = refl
bounds_after m (e ∷ es) = bounds_after (next m e) es ∙ the_bounds_stay.listed e.pid (run_by (status m e.pid) e.op e.reply e.chosen) m.committed

pub bounds_are_given : BoundsAreGiven
bounds_are_given root setup es =
    let committed : (after root setup es).committed.bounds ≡ setup.bounds = bounds_after (at_start root setup) es in
    record { committed = committed; seen = λ q. the_bounds_stay.listed q (calls_at (after root setup es) q) (after root setup es).committed ∙ committed }
