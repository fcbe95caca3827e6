use Rattle.std.proofs.Common.{◌≡◌, List, subst}
use Rattle.model.specs.Steps.{Touch}
use Rattle.marked_records.specs.Marks.{others_write}
use Rattle.marked_records.proofs.Held.{others_marked}
use Rattle.marked_records.proofs.MarkedRecords.others_write.Goals as goal

pub returns : goal.returns
returns c = subst (λ (lists : List (List Touch)). c.others_write.result ≡ others_write lists c.args.caller c.args.dir) c.self.view_is
    (others_marked c.self.inside.records c.self.inside.holders c.args.caller c.args.dir c.others_write.result c.self.invariant c.others_write.ensures)
