use Rattle.std.proofs.Common.{Some, option_copied, sym, ap, ◌∙◌}
use Rattle.model.specs.FiniteMap.{get, get-empty}
use Rattle.model.specs.State.{name_cmp, names_of_inode}
use Rattle.plain_kernel.specs.Content.{inode_of}
use Rattle.plain_kernel.proofs.inode.given_in.Goals as goal

pub returns-in-File : goal.returns-in-File
returns-in-File c =
    sym (get-empty name_cmp c.args.name.now) ∙ ap (λ t. get (names_of_inode (Some (inode_of t))) c.args.name.now) (sym c.in-File.is) ∙ ap (λ i. get (names_of_inode (Some i)) c.args.name.now) c.inode.view_is
    ∙ ap (λ o. get (names_of_inode (option_copied o)) c.args.name.now) (sym c.in-Some.is)

pub returns-in-Pipe : goal.returns-in-Pipe
returns-in-Pipe c =
    sym (get-empty name_cmp c.args.name.now) ∙ ap (λ t. get (names_of_inode (Some (inode_of t))) c.args.name.now) (sym c.in-Pipe.is) ∙ ap (λ i. get (names_of_inode (Some i)) c.args.name.now) c.inode.view_is
    ∙ ap (λ o. get (names_of_inode (option_copied o)) c.args.name.now) (sym c.in-Some.is)

pub returns-in-Fixed : goal.returns-in-Fixed
returns-in-Fixed c =
    sym (get-empty name_cmp c.args.name.now) ∙ ap (λ t. get (names_of_inode (Some (inode_of t))) c.args.name.now) (sym c.in-Fixed.is) ∙ ap (λ i. get (names_of_inode (Some i)) c.args.name.now) c.inode.view_is
    ∙ ap (λ o. get (names_of_inode (option_copied o)) c.args.name.now) (sym c.in-Some.is)

pub returns-in-None : goal.returns-in-None
returns-in-None c = sym (get-empty name_cmp c.args.name.now) ∙ ap (λ o. get (names_of_inode (option_copied o)) c.args.name.now) (sym c.in-None.is)
