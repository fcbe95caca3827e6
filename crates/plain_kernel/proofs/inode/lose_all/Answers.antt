use Rattle.std.proofs.Common.{sym, ap, ◌∙◌, arith}
use Rattle.model.specs.State.{names_of_inode}
use Rattle.plain_kernel.specs.Content.{inode_of}
use Rattle.plain_kernel.specs.Counts.{given_by, times_given}
use Rattle.plain_kernel.proofs.Empties.{none_given}
use Rattle.plain_kernel.proofs.inode.lose_all.Goals as goal

pub returns-in-File : goal.returns-in-File
returns-in-File c = λ n. omega (arith, none_given n ∙ ap (λ t. given_by n (inode_of t)) (sym c.in-File.is) ∙ ap (given_by n) c.inode.view_is ∙ ap (λ o. times_given n (names_of_inode o)) (sym c.in-Some.is))

pub returns-in-Pipe : goal.returns-in-Pipe
returns-in-Pipe c = λ n. omega (arith, none_given n ∙ ap (λ t. given_by n (inode_of t)) (sym c.in-Pipe.is) ∙ ap (given_by n) c.inode.view_is ∙ ap (λ o. times_given n (names_of_inode o)) (sym c.in-Some.is))

pub returns-in-Fixed : goal.returns-in-Fixed
returns-in-Fixed c = λ n. omega (arith, none_given n ∙ ap (λ t. given_by n (inode_of t)) (sym c.in-Fixed.is) ∙ ap (given_by n) c.inode.view_is ∙ ap (λ o. times_given n (names_of_inode o)) (sym c.in-Some.is))

pub returns-in-None : goal.returns-in-None
returns-in-None c = λ n. omega (arith, none_given n ∙ ap (λ o. times_given n (names_of_inode o)) (sym c.in-None.is))
