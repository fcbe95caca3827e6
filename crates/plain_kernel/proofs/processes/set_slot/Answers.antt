use Rattle.std.proofs.Common.{nat_cmp, ℕ, refl, sym, ap, ◌∙◌}
use Rattle.model.specs.FiniteMap.{FinMap, get, get-empty}
use Rattle.model.specs.Changes.{or_new}
use Rattle.plain_kernel.proofs.Linked.{set_again}
use Rattle.plain_kernel.proofs.Setting.{if_ok, slot_set}
use Rattle.plain_kernel.proofs.Slots.{if_err, insert_same, there_set}
use Rattle.plain_kernel.proofs.processes.set_slot.Goals as goal

pub change-requires : goal.change-requires
change-requires c = there_set _ c.args.pid _ _ c.in-Some.ensures.changed

pub returns-in-Some-clause-changed : goal.returns-in-Some-clause-changed
returns-in-Some-clause-changed c = if_ok c.insert-before.result c.insert-before.ensures.changed (λ h. set_again _ _ _ _ _ _ _ c.in-Some.ensures.changed c.change.ensures
    (slot_set _ _ c.args.fd c.args.fd _ c.args.description (c.process.view_is ∙ ap or_new c.in-Some.ensures.before) refl h))

pub returns-in-Some-clause-err : goal.returns-in-Some-clause-err
returns-in-Some-clause-err c = if_err c.insert-before.result c.insert-before.ensures.err (λ h.
    set_again _ _ _ _ _ _ c.in-Some.process c.in-Some.ensures.changed c.change.ensures
    (ap (λ (x : FinMap nat_cmp ℕ). record { table = x; priority = c.process.inside.priority }) h ∙ c.process.view_is)
    ∙ insert_same c.args.processes.now c.args.pid c.in-Some.process c.in-Some.ensures.before)

pub returns-in_ok-set-in-None-clause-before : goal.returns-in_ok-set-in-None-clause-before
returns-in_ok-set-in-None-clause-before c = sym (get-empty nat_cmp c.args.fd) ∙ ap (λ o. get (or_new o).table c.args.fd) c.in-None.ensures.before
