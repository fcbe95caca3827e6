use Rattle.std.proofs.Common.{Option, ap, ◌∙◌}
use Rattle.model.specs.FiniteMap.{get}
use Rattle.model.specs.State.{Inode, kind, mapped, names_of_inode}
use Rattle.plain_kernel.proofs.Looking.{found_told, not_found}
use Rattle.plain_kernel.proofs.plain.PlainKernelLook.find.Goals as goal

pub returns-in-Some : goal.returns-in-Some
returns-in-Some c =
    found_told c.args.self.now c.args.dir c.args.name.now c.in-Some.num c.kind_in.result
    (c.in-Some.ensures ∙ ap (λ (o : Option Inode). get (names_of_inode o) c.args.name.now) (c.get.ensures ∙ ap (λ k. get k.inodes c.args.dir) c.self.view_is))
    (c.kind_in.ensures ∙ ap (mapped kind) (c.get-in-Some.ensures ∙ ap (λ k. get k.inodes c.in-Some.num) c.self.view_is))

pub returns-in-None : goal.returns-in-None
returns-in-None c =
    not_found c.args.self.now c.args.dir c.args.name.now
    (c.in-None.ensures ∙ ap (λ (o : Option Inode). get (names_of_inode o) c.args.name.now) (c.get.ensures ∙ ap (λ k. get k.inodes c.args.dir) c.self.view_is))
