use Rattle.std.proofs.Common.{[], ◌∷◌, ◌+◌, ap, ◌∙◌}
use Rattle.model.specs.Aspects.{Block}
use Rattle.look.specs.Asked.{noting}
use Rattle.walk.proofs.Laws.{noting_more}
use Rattle.calls.proofs.Blocks.{run_more}
use Rattle.calls.proofs.asking.read_row.Goals as goal

pub loop-more-preserved : goal.loop-more-preserved
loop-more-preserved c =
    c.in_ok-add.ensures
    ∙ ap (λ r. noting r (Block c.args.file (c.args.first + c.loop-more.more) ∷ [])) c.loop-more.invariant
    ∙ noting_more c.args.reads.now _ _
    ∙ ap (noting c.args.reads.now) (run_more c.args.file c.args.first c.loop-more.more)
