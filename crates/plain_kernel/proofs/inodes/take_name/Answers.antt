use Rattle.std.proofs.Common.{ℕ, ap, ◌∙◌}
use Rattle.model.specs.FiniteMap.{FinMap, remove}
use Rattle.model.specs.State.{Directory, name_cmp}
use Rattle.plain_kernel.proofs.Linked.{set_again}
use Rattle.plain_kernel.proofs.inodes.take_name.Goals as goal

pub returns-clause-changed : goal.returns-clause-changed
returns-clause-changed c =
    set_again c.args.each.now c.names_taken.new.each c.set.new.self c.args.dir _ c.directory.result _ c.in_ok-names.ensures.left c.in_ok-set.ensures.changed
    (c.directory.ensures ∙ ap Directory (c.remove-before.ensures.changed ∙ ap (λ (x : FinMap name_cmp ℕ). remove x c.args.name.now) c.in_ok-names.ensures.taken))
