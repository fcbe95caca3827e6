use Rattle.std.proofs.Common.{Some, option_copied, sym, ap, ◌∙◌}
use Rattle.model.specs.FiniteMap.{keys}
use Rattle.model.specs.Paths.{is_empty}
use Rattle.model.specs.State.{names_of_inode}
use Rattle.plain_kernel.specs.Content.{inode_of}
use Rattle.plain_kernel.proofs.Empties.{is_empty-keys}
use Rattle.plain_kernel.proofs.inode.is_empty_in.Goals as goal

pub returns-in-File : goal.returns-in-File
returns-in-File c =
    is_empty-keys ∙ ap (λ t. is_empty (keys (names_of_inode (Some (inode_of t))))) (sym c.in-File.is) ∙ ap (λ i. is_empty (keys (names_of_inode (Some i)))) c.inode.view_is
    ∙ ap (λ o. is_empty (keys (names_of_inode (option_copied o)))) (sym c.in-Some.is)

pub returns-in-Pipe : goal.returns-in-Pipe
returns-in-Pipe c =
    is_empty-keys ∙ ap (λ t. is_empty (keys (names_of_inode (Some (inode_of t))))) (sym c.in-Pipe.is) ∙ ap (λ i. is_empty (keys (names_of_inode (Some i)))) c.inode.view_is
    ∙ ap (λ o. is_empty (keys (names_of_inode (option_copied o)))) (sym c.in-Some.is)

pub returns-in-Fixed : goal.returns-in-Fixed
returns-in-Fixed c =
    is_empty-keys ∙ ap (λ t. is_empty (keys (names_of_inode (Some (inode_of t))))) (sym c.in-Fixed.is) ∙ ap (λ i. is_empty (keys (names_of_inode (Some i)))) c.inode.view_is
    ∙ ap (λ o. is_empty (keys (names_of_inode (option_copied o)))) (sym c.in-Some.is)

pub returns-in-None : goal.returns-in-None
returns-in-None c = is_empty-keys ∙ ap (λ o. is_empty (keys (names_of_inode (option_copied o)))) (sym c.in-None.is)
