use Rattle.std.proofs.Common.{refl, ap, subst, ◌∙◌}
use Rattle.commit.specs.ProcessStates.{views}
use Rattle.commit.specs.Views.{Shows, changes_in, gone_slot, view_at}
use Rattle.commit.proofs.Claims.{covered_without}
use Rattle.commit.proofs.Showing.{shows}
use Rattle.commit.proofs.Keeping.{covered_still}
use Rattle.commit.proofs.transactions.Transactions.exit.Goals as goal

pub invariant_of-self : goal.invariant_of-self
invariant_of-self c = covered_still (views c.set_slot.new.slots) c.self.inside.stable c.exit.new.self c.exit.ensures.kept
    (covered_without (views c.self.inside.slots) _ c.args.pid gone_slot c.self.inside.stable
    (shows c.self.inside.slots c.set_slot.new.slots c.args.pid gone_slot c.set_slot.ensures) refl
    (ap (λ v. changes_in (view_at v.slots c.args.pid)) c.self.view_is ∙ ap changes_in c.requires.idle) c.self.invariant)

pub returns-clause-slots : goal.returns-clause-slots
returns-clause-slots c = subst (λ v. Shows v.slots (views c.set_slot.new.slots) c.args.pid gone_slot) c.self.view_is
    (shows c.self.inside.slots c.set_slot.new.slots c.args.pid gone_slot c.set_slot.ensures)
