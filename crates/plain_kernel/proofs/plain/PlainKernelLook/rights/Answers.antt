use Rattle.std.proofs.Common.{Option, ap, ◌∙◌}
use Rattle.ids.specs.Rights.{first_rights}
use Rattle.model.specs.FiniteMap.{get}
use Rattle.model.specs.State.{Rights, kind, kind_of, mapped, rights_or}
use Rattle.plain_kernel.proofs.plain.PlainKernelLook.rights.Goals as goal

pub returns-in-Some : goal.returns-in-Some
returns-in-Some c = ap (λ (o : Option Rights). rights_or o (kind_of c.args.self.now c.args.inode)) (c.in-Some.ensures ∙ ap (λ k. get k.rights c.args.inode) c.self.view_is)

pub returns-in-None : goal.returns-in-None
returns-in-None c =
    c.first.ensures
    ∙ ap first_rights (c.kind_in.ensures ∙ ap (mapped kind) (c.get-in-None.ensures ∙ ap (λ k. get k.inodes c.args.inode) c.self.view_is))
    ∙ ap (λ (o : Option Rights). rights_or o (kind_of c.args.self.now c.args.inode)) (c.in-None.ensures ∙ ap (λ k. get k.rights c.args.inode) c.self.view_is)
