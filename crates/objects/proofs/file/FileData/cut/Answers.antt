use Rattle.std.proofs.Common.{◌∙◌, ap}
use Rattle.model.specs.Changes.{sized}
use Rattle.objects.proofs.Pieced.{cut_bytes, cut_ends}
use Rattle.objects.proofs.file.FileData.cut.Goals as goal

pub invariant_of-self : goal.invariant_of-self
invariant_of-self c = (c.requires, cut_ends c.self.inside.pieces c.cut.new.self c.self.inside.len c.args.len c.self.invariant.1 c.cut.ensures.before c.cut.ensures.here c.cut.ensures.behind)

pub returns : goal.returns
returns c = cut_bytes c.self.inside.pieces c.cut.new.self c.self.inside.len c.args.len c.self.invariant.1 c.cut.ensures.before c.cut.ensures.here c.cut.ensures.behind
    ∙ ap (λ f. sized c.args.len f.bytes) c.self.view_is
