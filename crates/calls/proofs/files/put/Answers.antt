use Rattle.std.proofs.Common.{[], ◌∷◌, ◌++◌, ◌+◌, ap, ◌∙◌, length, sym}
use Rattle.walk.proofs.Laws.{via}
use Rattle.model.specs.Plans.{changed}
use Rattle.model.specs.Calls.{Count}
use Rattle.model.specs.Changes.{Put_bytes, Set_offset}
use Rattle.calls.proofs.files.put.Goals as goal

pub returns : goal.returns
returns c k before = via (λ i. changed (Count (length (sym c.as_slice.ensures i))) ((sym c.new.ensures i ++ Put_bytes c.args.file c.args.offset c.args.kept c.args.size ∷ []) ++ Set_offset c.args.description (c.args.offset + length (sym c.as_slice.ensures i)) ∷ [])) (via (ap (changed (Count (length c.as_slice.result.now))) (ap (λ written. written ++ Set_offset c.args.description (c.args.offset + length c.as_slice.result.now) ∷ []) (sym c.in_ok-written.ensures) ∙ sym c.in_ok-edits.ensures)) (c.changed.ensures _ _))
