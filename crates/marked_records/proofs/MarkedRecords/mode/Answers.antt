use Rattle.std.proofs.Common.{◌≡◌, List, subst}
use Rattle.model.specs.Steps.{Touch}
use Rattle.marked_records.specs.Marks.{mode_by_touches}
use Rattle.marked_records.proofs.Held.{mode_marked}
use Rattle.marked_records.proofs.MarkedRecords.mode.Goals as goal

pub returns : goal.returns
returns c = subst (λ (lists : List (List Touch)). c.mode.result ≡ mode_by_touches lists c.args.dir) c.self.view_is
    (mode_marked c.self.inside.records c.self.inside.holders c.args.dir c.mode.result c.self.invariant c.mode.ensures)
