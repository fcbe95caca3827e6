use Rattle.std.proofs.Common.{◌∙◌}
use Rattle.commit.proofs.Counting.{count_edited}
use Rattle.commit.proofs.process_states.edit_slot.Goals as goal

pub invariant_of-slots : goal.invariant_of-slots
invariant_of-slots c = c.slots.invariant ∙ count_edited c.edit_in.result c.slots.inside.all.items c.edit_in.new.slots.items c.args.pid c.args.edits.items c.edit_in.ensures.ok c.edit_in.ensures.err
