use Rattle.std.proofs.Common.{◌==◌, cond, ap, ◌∙◌}
use Rattle.model.specs.FiniteMap.{get}
use Rattle.view_times.specs.Kept.{merged_if}
use Rattle.view_times.specs.Rows.{Rows}
use Rattle.view_times.specs.declared.times.Times.{Times}
use Rattle.view_times.proofs.everybody.ByNumber+Times.merge.Goals as goal

pub returns-clause-times : goal.returns-clause-times
returns-clause-times c = λ q.
    c.merge_in.ensures.times q
    ∙ ap (λ (t : Rows Times). cond (c.args.inode == q) (merged_if c.args.notes (get t.rows q)) (get t.rows q)) c.self.view_is
