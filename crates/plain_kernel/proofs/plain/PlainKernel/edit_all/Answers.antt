use Rattle.std.proofs.Common.{sym, subst, ap, ◌∙◌}
use Rattle.std.proofs.lemmas.List.{drop_all}
use Rattle.freeing_laws.specs.Sweep.{all_freed}
use Rattle.plain_kernel.specs.Edits.{EndsWithin}
use Rattle.plain_kernel.proofs.Freed.{all_at, edits_step}
use Rattle.plain_kernel.proofs.plain.PlainKernel.edit_all.Goals as goal

pub loop-edit-preserved : goal.loop-edit-preserved
loop-edit-preserved c = edits_step c.args.chosen.now c.args.edits.now c.loop-edit.edit-index c.edit-item.result c.loop-edit-test.true c.edit-item.is _ c.loop-edit.self c.edit.new.self c.loop-edit.invariant c.in_ok-edit.ensures

pub returns : goal.returns
returns c = sym (c.loop-edit.invariant ∙ ap (λ xs. all_freed c.args.chosen.now xs c.loop-edit.self) (drop_all _ _ c.loop-edit-test.false))

pub edit-requires : goal.edit-requires
edit-requires c = subst EndsWithin (sym c.edit-item.is) (all_at EndsWithin c.args.edits.now c.loop-edit.edit-index c.edit-item.result c.requires c.loop-edit-test.true)
