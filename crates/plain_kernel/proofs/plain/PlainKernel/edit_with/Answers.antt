use Rattle.std.proofs.Common.{ap, ◌++◌, ◌∙◌}
use Rattle.freeing_laws.specs.Counts.{unnamed}
use Rattle.freeing_laws.specs.Sweep.{inodes_of}
use Rattle.plain_kernel.proofs.Freed.{edit_freed}
use Rattle.plain_kernel.proofs.plain.PlainKernel.edit_with.Goals as goal

pub returns-in-Ok : goal.returns-in-Ok
returns-in-Ok c = edit_freed c.args.chosen.now c.args.edit.now c.args.self.now _ _ _ _ _ c.requires.gone
    (c.as_slice.ensures.value ∙ c.in_ok-inodes.ensures ∙ ap (λ xs. xs ++ inodes_of c.args.self.now c.args.gone.now) c.in_ok-unnamed.ensures
    ∙ ap (λ xs. unnamed c.args.edit.now ++ inodes_of c.args.self.now xs) c.requires.gone)
    c.in-Ok.ensures c.free_descriptions.ensures c.free_inodes.ensures
