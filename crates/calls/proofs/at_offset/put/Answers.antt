use Rattle.std.proofs.Common.{[], ◌∷◌, length, sym}
use Rattle.model.specs.Plans.{changed}
use Rattle.model.specs.Calls.{Count}
use Rattle.model.specs.Changes.{Put_bytes}
use Rattle.walk.proofs.Laws.{via}
use Rattle.calls.proofs.at_offset.put.Goals as goal

pub returns : goal.returns
returns c k before = via (λ i. changed (Count (length (sym c.as_slice.ensures i))) (Put_bytes c.args.file c.args.offset c.args.kept c.args.size ∷ [])) (c.changed_by.ensures _ _)
