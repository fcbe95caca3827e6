use Rattle.std.proofs.Common.{Some, option_copied, sym, ap, ◌∙◌}
use Rattle.model.specs.FiniteMap.{keys}
use Rattle.model.specs.State.{names_of_inode}
use Rattle.plain_kernel.specs.Content.{inode_of}
use Rattle.plain_kernel.proofs.Empties.{no_keys}
use Rattle.plain_kernel.proofs.inode.names_in.Goals as goal

pub returns-in-File : goal.returns-in-File
returns-in-File c =
    c.new-in-File.ensures ∙ c.new.ensures.items ∙ no_keys ∙ ap (λ t. keys (names_of_inode (Some (inode_of t)))) (sym c.in-File.is) ∙ ap (λ i. keys (names_of_inode (Some i))) c.inode.view_is
    ∙ ap (λ o. keys (names_of_inode (option_copied o))) (sym c.in-Some.is)

pub returns-in-Pipe : goal.returns-in-Pipe
returns-in-Pipe c =
    c.new-in-Pipe-2.ensures ∙ c.new-in-Pipe.ensures.items ∙ no_keys ∙ ap (λ t. keys (names_of_inode (Some (inode_of t)))) (sym c.in-Pipe.is) ∙ ap (λ i. keys (names_of_inode (Some i))) c.inode.view_is
    ∙ ap (λ o. keys (names_of_inode (option_copied o))) (sym c.in-Some.is)

pub returns-in-Fixed : goal.returns-in-Fixed
returns-in-Fixed c =
    c.new-in-Fixed-2.ensures ∙ c.new-in-Fixed.ensures.items ∙ no_keys ∙ ap (λ t. keys (names_of_inode (Some (inode_of t)))) (sym c.in-Fixed.is) ∙ ap (λ i. keys (names_of_inode (Some i))) c.inode.view_is
    ∙ ap (λ o. keys (names_of_inode (option_copied o))) (sym c.in-Some.is)

pub returns-in-None : goal.returns-in-None
returns-in-None c = c.new-in-None-2.ensures ∙ c.new-in-None.ensures.items ∙ no_keys ∙ ap (λ o. keys (names_of_inode (option_copied o))) (sym c.in-None.is)
