use Rattle.std.proofs.Common.{ap, sym, ◌∙◌}
use Rattle.std.proofs.lemmas.List.{drop_all}
use Rattle.model.specs.Moments.{with_processes}
use Rattle.plain_kernel.proofs.Starting.{one_process}
use Rattle.plain_kernel.proofs.start.first_processes.Goals as goal

pub loop-index-init : goal.loop-index-init
loop-index-init c = ap (with_processes 0 c.args.priorities.now) (sym c.new-processes.ensures)

pub loop-index-preserved : goal.loop-index-preserved
loop-index-preserved c = c.loop-index.invariant ∙ one_process c.args.priorities.now c.loop-index.index c.index-priorities-index.result _ _ _ _ c.loop-index-test.true c.index-priorities-index.is c.new.ensures c.level.ensures.value c.in_ok-set.ensures.changed

pub returns : goal.returns
returns c = sym (c.loop-index.invariant ∙ ap (λ ps. with_processes c.loop-index.index ps c.loop-index.processes) (drop_all _ _ c.loop-index-test.false))
