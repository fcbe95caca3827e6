use Rattle.std.proofs.Common.{refl, ap, subst, ◌∙◌}
use Rattle.commit.specs.ProcessStates.{views}
use Rattle.commit.specs.Views.{Shows, changes_in, idle_slot}
use Rattle.commit.proofs.Keeping.{covered_without_its}
use Rattle.commit.proofs.Showing.{shows}
use Rattle.commit.proofs.transactions.Transactions.end.Goals as goal

pub invariant_of-self : goal.invariant_of-self
invariant_of-self c = covered_without_its c.self.inside.slots c.take_slot-slot.new.slots c.args.pid idle_slot _ c.self.inside.stable c.commit_into.new.stable
    c.take_slot-slot.ensures.left refl (c.shadow_in.ensures ∙ ap changes_in c.take_slot-slot.ensures.taken) c.commit_into.ensures.kept c.self.invariant

pub returns-clause-slots : goal.returns-clause-slots
returns-clause-slots c = subst (λ v. Shows v.slots (views c.take_slot-slot.new.slots) c.args.pid idle_slot) c.self.view_is
    (shows c.self.inside.slots c.take_slot-slot.new.slots c.args.pid idle_slot c.take_slot-slot.ensures.left)
