use Rattle.std.proofs.Common.{subst}
use Rattle.commit.specs.ProcessStates.{slot_view, views}
use Rattle.commit.specs.Views.{Shows}
use Rattle.commit.proofs.Keeping.{covered_without_its, slot_covered}
use Rattle.commit.proofs.Showing.{sets_again, shows}
use Rattle.commit.proofs.transactions.Transactions.set.Goals as goal

pub drop_slot-requires : goal.drop_slot-requires
drop_slot-requires c = slot_covered c.self.inside.slots c.self.inside.stable c.args.pid (slot_view c.take_slot-before.result) c.self.invariant c.take_slot-before.ensures.taken

pub invariant_of-self : goal.invariant_of-self
invariant_of-self c = covered_without_its c.self.inside.slots c.set_slot.new.slots c.args.pid (slot_view c.args.slot) _ c.self.inside.stable c.drop_slot.new.stable
    (sets_again c.self.inside.slots _ c.set_slot.new.slots c.args.pid _ _ c.take_slot-before.ensures.left c.set_slot.ensures) c.requires.empty
    (Rattle.std.proofs.Common.ap Rattle.commit.specs.Views.changes_in c.take_slot-before.ensures.taken) c.drop_slot.ensures.kept c.self.invariant

pub returns-clause-slots : goal.returns-clause-slots
returns-clause-slots c = subst (λ v. Shows v.slots (views c.set_slot.new.slots) c.args.pid (slot_view c.args.slot)) c.self.view_is
    (shows c.self.inside.slots c.set_slot.new.slots c.args.pid (slot_view c.args.slot)
    (sets_again c.self.inside.slots _ c.set_slot.new.slots c.args.pid _ _ c.take_slot-before.ensures.left c.set_slot.ensures))
