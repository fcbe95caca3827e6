use Rattle.std.proofs.Common.{◌∷◌, sym, ap, ◌∙◌, ◌++◌}
use Rattle.std.proofs.Common.{◌+◌, drop}
use Rattle.std.specs.Prelude.{reverse}
use Rattle.std.proofs.lemmas.List.{drop_more}
use Rattle.model.specs.Plans.{each_once}
use Rattle.calls.proofs.Frees.{once_step, pipes_of}
use Rattle.calls.proofs.own.pipes_of.Goals as goal

pub loop-entry-preserved : goal.loop-entry-preserved
loop-entry-preserved c = c.loop-entry.invariant ∙ ap (λ rest. c.loop-entry.pipes ++ each_once (reverse c.loop-entry.pipes) (pipes_of rest)) (drop_more _ _ c.entry-item.result c.loop-entry-test.true ∙ ap (λ e. e ∷ drop (c.loop-entry.entry-index + 1) c.args.table.now) (sym c.entry-item.is)) ∙ once_step c.loop-entry.pipes c.entry-item.result (drop (c.loop-entry.entry-index + 1) c.args.table.now) ∙ ap (λ pipes. pipes ++ each_once (reverse pipes) (pipes_of (drop (c.loop-entry.entry-index + 1) c.args.table.now))) (sym c.in_ok-add_pipe.ensures)
