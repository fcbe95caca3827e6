use Rattle.std.proofs.Common.{◌≡◌, ℕ, [], ◌∷◌, ap, subst, ◌∙◌}
use Rattle.commit.specs.ProcessStates.{slot_view, views, Sets}
use Rattle.commit.specs.Dooming.{with_doom, with_dooms}
use Rattle.commit.specs.Views.{changes_in, view_at}
use Rattle.commit.proofs.Keeping.{covered_without_its, slot_covered}
use Rattle.commit.proofs.Showing.{nothing_left, sets_again, dooms}
use Rattle.commit.proofs.transactions.Transactions.doom.Goals as goal

pub doom_slot-slot-requires : goal.doom_slot-slot-requires
doom_slot-slot-requires c = slot_covered c.self.inside.slots c.self.inside.stable c.args.doomed.pid (slot_view c.take_slot-slot.result) c.self.invariant c.take_slot-slot.ensures.taken

pub invariant_of-self : goal.invariant_of-self
invariant_of-self c = covered_without_its c.self.inside.slots c.set_slot.new.slots c.args.doomed.pid _ _ c.self.inside.stable c.doom_slot-slot.new.stable
    (sets_again c.self.inside.slots _ c.set_slot.new.slots c.args.doomed.pid _ _ c.take_slot-slot.ensures.left c.set_slot.ensures)
    (ap changes_in c.doom_slot-slot.ensures.slot ∙ nothing_left c.args.doomed (slot_view c.take_slot-slot.result))
    (ap changes_in c.take_slot-slot.ensures.taken) c.doom_slot-slot.ensures.kept c.self.invariant

pub returns-clause-slots : goal.returns-clause-slots
returns-clause-slots c = subst (λ v. (q : ℕ) → view_at (views c.set_slot.new.slots) q ≡ with_dooms (c.args.doomed ∷ []) q (view_at v.slots q)) c.self.view_is
    (dooms c.self.inside.slots c.set_slot.new.slots c.args.doomed
    (subst (Sets c.self.inside.slots c.set_slot.new.slots c.args.doomed.pid) (c.doom_slot-slot.ensures.slot ∙ ap (with_doom c.args.doomed) c.take_slot-slot.ensures.taken)
    (sets_again c.self.inside.slots _ c.set_slot.new.slots c.args.doomed.pid _ _ c.take_slot-slot.ensures.left c.set_slot.ensures)))
