use Rattle.std.proofs.Common.{[], sym, ap, ◌∙◌, if◌then◌else◌}
use Rattle.walk.proofs.Laws.{via, gives}
use Rattle.std.proofs.Common.{[], ap, ◌∙◌, if◌then◌else◌}
use Rattle.model.specs.Plan.{Give}
use Rattle.model.specs.Plans.{cut_to}
use Rattle.calls.proofs.files.cut_if.Goals as goal

pub returns-then-truncates : goal.returns-then-truncates
returns-then-truncates g c = via (ap (λ b. if b then cut_to c.args.file 0 else Give []) (sym c.truncates.ensures ∙ c.if-truncates.true)) c.cut_to.ensures

pub returns-else-truncates : goal.returns-else-truncates
returns-else-truncates g c = via (ap (λ b. if b then cut_to c.args.file 0 else Give []) (sym c.truncates.ensures ∙ c.if-truncates.false)) (via (ap Give (sym c.new.ensures)) gives)
