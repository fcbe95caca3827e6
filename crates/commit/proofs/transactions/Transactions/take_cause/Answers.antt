use Rattle.std.proofs.Common.{refl, ap, subst, ◌∙◌}
use Rattle.commit.specs.ProcessStates.{views}
use Rattle.commit.specs.Views.{Shows, changes_in, idle_slot, view_at}
use Rattle.commit.proofs.Claims.{covered_without}
use Rattle.commit.proofs.Showing.{shows}
use Rattle.commit.proofs.transactions.Transactions.take_cause.Goals as goal

pub invariant_of-self : goal.invariant_of-self
invariant_of-self c = covered_without (views c.self.inside.slots) _ c.args.pid idle_slot c.self.inside.stable
    (shows c.self.inside.slots c.take_slot.new.slots c.args.pid idle_slot c.take_slot.ensures.left) refl
    (ap (λ v. changes_in (view_at v.slots c.args.pid)) c.self.view_is ∙ c.requires.unchanged) c.self.invariant

pub returns-clause-slots : goal.returns-clause-slots
returns-clause-slots c = subst (λ v. Shows v.slots (views c.take_slot.new.slots) c.args.pid idle_slot) c.self.view_is
    (shows c.self.inside.slots c.take_slot.new.slots c.args.pid idle_slot c.take_slot.ensures.left)
