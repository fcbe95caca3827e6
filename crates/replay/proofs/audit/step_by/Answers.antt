use Rattle.std.proofs.Common.{List, sym, ap, subst, ◌∙◌}
use Rattle.std.specs.List.{AllByRecursion}
use Rattle.plain_kernel.specs.Edits.{EndsWithin}
use Rattle.model.specs.Changes.{Edit}
use Rattle.model.specs.Steps.{CanBeChosen}
use Rattle.freeing_laws.specs.Sweep.{all_freed}
use Rattle.replay.proofs.Running.{ran_step}
use Rattle.replay.proofs.audit.step_by.Goals as goal

pub returns : goal.returns
returns c = λ call plan. ran_step c.args.kernel.now c.args.pid call c.args.reply.now _ _ c.args.chosen.now _ c.requires.tidied
    (sym c.is_living.ensures ∙ c.if-not-is_living.false) (c.is_reply.ensures.0 c.if-not-is_reply.false) plan.answer plan.edits
    (subst (λ (xs : List Edit). CanBeChosen c.args.kernel.now xs c.args.chosen.now) c.as_slice.ensures.value ((c.can_be_chosen.ensures c.requires.tidied.well).0 c.if-not-can_be_chosen.false))
    (c.in_ok-edit_all.ensures ∙ ap (λ xs. all_freed c.args.chosen.now xs c.args.kernel.now) c.as_slice-2.ensures.value)

pub edit_all-requires : goal.edit_all-requires
edit_all-requires c = subst (AllByRecursion EndsWithin) (sym c.as_slice-2.ensures.value) c.requires.within
