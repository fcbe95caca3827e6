use Rattle.std.proofs.Common.{◌∷◌, sym, ap, ◌∙◌, refl, drop, ◌+◌}
use Rattle.std.proofs.lemmas.List.{drop_more}
use Rattle.std.specs.List.{flat_map}
use Rattle.model.specs.Changes.{marks}
use Rattle.calls.proofs.Marking.{mark_more}
use Rattle.calls.proofs.marks.mark_all.Goals as goal

pub loop-edit-preserved : goal.loop-edit-preserved
loop-edit-preserved c = mark_more marks (flat_map marks) (λ _ _. refl) c.loop-edit.touches c.edit-item.result (drop (c.loop-edit.edit-index + 1) c.args.edits.now) c.loop-edit.invariant (drop_more _ _ c.edit-item.result c.loop-edit-test.true ∙ ap (λ x. x ∷ drop (c.loop-edit.edit-index + 1) c.args.edits.now) (sym c.edit-item.is)) c.in_ok-mark.ensures
