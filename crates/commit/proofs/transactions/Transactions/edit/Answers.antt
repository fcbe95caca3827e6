use Rattle.std.proofs.Common.{Result, Ok, Err, ap, sym, subst, ◌∙◌}
use Rattle.std.specs.Result.{OnErr}
use Rattle.notes.specs.Log.{effect}
use Rattle.shadow.specs.Claims.{Covers}
use Rattle.commit.specs.Edits.{AreNew, with_change}
use Rattle.commit.specs.ProcessStates.{views, slot_at}
use Rattle.commit.specs.Views.{Shows, SameViews, changes_in, is_live_slot, view_at}
use Rattle.commit.proofs.Claims.{are_new, covers_one}
use Rattle.commit.proofs.Keeping.{covered_with_change, covered_with_none}
use Rattle.commit.proofs.Showing.{at_is, same_views, shows}
use Rattle.commit.proofs.transactions.Transactions.edit.Goals as goal

pub edit_slot-requires-clause-live : goal.edit_slot-requires-clause-live
edit_slot-requires-clause-live c = ap is_live_slot (sym (at_is c.self.inside.slots c.args.pid)) ∙ ap (λ v. is_live_slot (view_at v.slots c.args.pid)) c.self.view_is ∙ c.requires.live

pub edit_slot-requires-clause-covers : goal.edit_slot-requires-clause-covers
edit_slot-requires-clause-covers c = subst (λ v. Covers c.self.inside.stable (changes_in v)) (at_is c.self.inside.slots c.args.pid) (covers_one (views c.self.inside.slots) c.self.inside.stable c.self.invariant c.args.pid)

pub invariant_of-self : goal.invariant_of-self
invariant_of-self c = covered_with_none c.self.inside.slots c.edit_slot.new.slots c.args.pid c.self.inside.stable c.edit_slot.new.stable c.self.invariant c.in_err-chosen.ensures.err c.in_err-chosen.ensures.same

pub invariant_of-self-2 : goal.invariant_of-self-2
invariant_of-self-2 c = covered_with_change c.self.inside.slots c.edit_slot.new.slots c.args.pid (effect c.in_ok-chosen.chosen c.args.edits.items) c.self.inside.stable c.edit_slot.new.stable c.self.invariant
    (ap is_live_slot (sym (at_is c.self.inside.slots c.args.pid)) ∙ ap (λ v. is_live_slot (view_at v.slots c.args.pid)) c.self.view_is ∙ c.requires.live) c.in_ok-chosen.ensures.kept c.in_ok-chosen.ensures.ok

either_way : {A E P : Type 0} (r : Result A E) → P → OnErr r P
either_way (Ok x) h = tt
either_way (Err e) h = h

pub returns-in_err-chosen-clause-err : goal.returns-in_err-chosen-clause-err
returns-in_err-chosen-clause-err c = either_way c.from_residual.result
    (subst (λ v. SameViews v.slots (views c.edit_slot.new.slots)) c.self.view_is (same_views c.self.inside.slots c.edit_slot.new.slots c.args.pid c.in_err-chosen.ensures.err))

pub returns-clause-new : goal.returns-clause-new
returns-clause-new c = subst (λ v. AreNew v c.args.edits.items c.in_ok-chosen.chosen) c.self.view_is
    (are_new (views c.self.inside.slots) c.self.inside.stable c.args.edits.items c.in_ok-chosen.chosen c.self.invariant c.in_ok-chosen.ensures.new)

pub returns-clause-slots : goal.returns-clause-slots
returns-clause-slots c = subst (λ v. Shows v.slots (views c.edit_slot.new.slots) c.args.pid (with_change (effect c.in_ok-chosen.chosen c.args.edits.items) (view_at v.slots c.args.pid))) c.self.view_is
    (subst (λ v. Shows (views c.self.inside.slots) (views c.edit_slot.new.slots) c.args.pid (with_change (effect c.in_ok-chosen.chosen c.args.edits.items) v)) (sym (at_is c.self.inside.slots c.args.pid))
    (shows c.self.inside.slots c.edit_slot.new.slots c.args.pid (with_change (effect c.in_ok-chosen.chosen c.args.edits.items) (slot_at c.self.inside.slots c.args.pid)) c.in_ok-chosen.ensures.ok))
