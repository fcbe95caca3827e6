use Rattle.std.proofs.Common.{[], ◌∷◌, ◌++◌, ◌+◌, append_assoc, ap, sym, ◌∙◌}
use Rattle.std.proofs.lemmas.List.{map-append}
use Rattle.model.specs.Aspects.{Block}
use Rattle.look.specs.Asked.{writing}
use Rattle.calls.proofs.Blocks.{run_more}
use Rattle.calls.proofs.marks.mark_blocks.Goals as goal

pub loop-more-preserved : goal.loop-more-preserved
loop-more-preserved c =
    c.in_ok-write.ensures
    ∙ ap (λ t. t ++ writing (Block c.args.file (c.blocks_of-first.result.0 + c.loop-more.more) ∷ [])) c.loop-more.invariant
    ∙ append_assoc c.args.touches.now _ _
    ∙ ap (λ t. c.args.touches.now ++ t) (sym (map-append _ _ (Block c.args.file (c.blocks_of-first.result.0 + c.loop-more.more) ∷ [])) ∙ ap writing (run_more c.args.file c.blocks_of-first.result.0 c.loop-more.more))
