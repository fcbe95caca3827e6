use Rattle.std.proofs.Common.{refl, subst, List, []}
use Rattle.model.specs.Steps.{Touch}
use Rattle.conflict.specs.Clashing.{AreClashes}
use Rattle.marked_records.proofs.Dropping.{clashes_alone}
use Rattle.marked_records.proofs.MarkedRecords.others_touched.Goals as goal

pub returns : goal.returns
returns c = λ none touches. subst (λ (lists : List (List Touch)). AreClashes lists c.args.caller touches []) c.self.view_is
    (clashes_alone c.self.inside.records c.args.caller (c.others_touched.ensures none) touches [] refl)
