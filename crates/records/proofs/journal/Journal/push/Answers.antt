use Rattle.std.proofs.Common.{◌∙◌, ap}
use Rattle.std.specs.Prelude.{is_ok}
use Rattle.records.specs.Index.{has}
use Rattle.records.proofs.Distinct.{once_pushed_if}
use Rattle.records.proofs.journal.Journal.push.Goals as goal

pub invariant_of-self : goal.invariant_of-self
invariant_of-self c = once_pushed_if c.self.inside.touches.items c.push.new.self.items c.args.touch (is_ok c.push.result) c.self.invariant (ap (has c.args.touch) c.self.view_is ∙ c.requires) c.push.ensures.items
