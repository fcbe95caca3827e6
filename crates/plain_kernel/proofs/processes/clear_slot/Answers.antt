use Rattle.std.proofs.Common.{nat_cmp, refl, sym, ap, ◌∙◌}
use Rattle.model.specs.FiniteMap.{FinMap, get, get-empty, insert}
use Rattle.model.specs.State.{Process}
use Rattle.model.specs.Changes.{or_new, without_slot}
use Rattle.plain_kernel.proofs.Linked.{set_again}
use Rattle.plain_kernel.proofs.Setting.{slot_left}
use Rattle.plain_kernel.proofs.Slots.{bare_left, there_set}
use Rattle.plain_kernel.proofs.processes.clear_slot.Goals as goal

pub change-requires : goal.change-requires
change-requires c = there_set _ c.args.pid _ _ c.in-Some.ensures.changed

pub returns-in-Some-clause-changed : goal.returns-in-Some-clause-changed
returns-in-Some-clause-changed c = set_again _ _ _ _ _ _ _ c.in-Some.ensures.changed c.change.ensures
    (slot_left _ _ c.args.fd c.args.fd _ (c.process.view_is ∙ ap or_new c.in-Some.ensures.before) refl c.remove-before.ensures.changed)

pub returns-in_ok-set-in-None-clause-changed : goal.returns-in_ok-set-in-None-clause-changed
returns-in_ok-set-in-None-clause-changed c =
    c.in_ok-set-in-None.ensures.changed ∙ ap (λ (x : FinMap nat_cmp Process). insert x c.args.pid c.new-in-None.result) c.in-None.ensures.changed
    ∙ ap (insert c.args.processes.now c.args.pid) (c.new-in-None.ensures ∙ bare_left c.args.fd ∙ ap (λ o. without_slot c.args.fd (or_new o)) c.in-None.ensures.before)

pub returns-in_ok-set-in-None-clause-before : goal.returns-in_ok-set-in-None-clause-before
returns-in_ok-set-in-None-clause-before c = sym (get-empty nat_cmp c.args.fd) ∙ ap (λ o. get (or_new o).table c.args.fd) c.in-None.ensures.before
