use Rattle.std.proofs.Common.{ap, ◌∙◌}
use Rattle.model.specs.Changes.{set_name}
use Rattle.plain_kernel.proofs.Edited.{edited, makes_directory, makes_file, makes_fixed, moves, names_file, swaps, unnames_directory, unnames_file}
use Rattle.plain_kernel.proofs.Setting.{if_ok}
use Rattle.plain_kernel.proofs.plain.PlainKernel.apply.Goals as goal

pub returns-in-MakeDirectory : goal.returns-in-MakeDirectory
returns-in-MakeDirectory c = if_ok c.make.result c.make.ensures (λ h. edited _ _ _ _ _ c.in-MakeDirectory.is (makes_directory _ _ _ _ _ _ _ _ _ c.made.ensures c.directory-inode.ensures c.new.ensures h))

pub returns-in-MakeFile : goal.returns-in-MakeFile
returns-in-MakeFile c = if_ok c.make-in-MakeFile.result c.make-in-MakeFile.ensures (λ h. edited _ _ _ _ _ c.in-MakeFile.is (makes_file _ _ _ _ _ _ _ _ _ c.made-in-MakeFile.ensures c.file-inode.ensures c.new-in-MakeFile.ensures h))

pub returns-in_ok-try_clone-in-MakeFixed : goal.returns-in_ok-try_clone-in-MakeFixed
returns-in_ok-try_clone-in-MakeFixed c = if_ok c.make-in-MakeFixed.result c.make-in-MakeFixed.ensures (λ h. edited _ _ _ _ _ c.in-MakeFixed.is (makes_fixed _ _ _ _ _ _ _ _ _ _ c.made-in-MakeFixed.ensures c.fixed-inode.ensures c.in_ok-try_clone-in-MakeFixed.ensures h))

pub returns-in-NameFile : goal.returns-in-NameFile
returns-in-NameFile c = if_ok c.set_name.result c.set_name.ensures (λ h. edited _ _ _ _ _ c.in-NameFile.is (names_file _ _ _ _ _ _ h))

pub returns-in-UnnameFile : goal.returns-in-UnnameFile
returns-in-UnnameFile c = if_ok c.clear_name.result c.clear_name.ensures (λ h. edited _ _ _ _ _ c.in-UnnameFile.is (unnames_file _ _ _ _ _ _ h))

pub returns-in-UnnameDirectory : goal.returns-in-UnnameDirectory
returns-in-UnnameDirectory c = if_ok c.clear_name-in-UnnameDirectory.result c.clear_name-in-UnnameDirectory.ensures (λ h. edited _ _ _ _ _ c.in-UnnameDirectory.is (unnames_directory _ _ _ _ _ _ h))

pub returns-in_ok-clear_name-in-Move : goal.returns-in_ok-clear_name-in-Move
returns-in_ok-clear_name-in-Move c = if_ok c.set_name-in-Move.result c.set_name-in-Move.ensures (λ h. edited _ _ _ _ _ c.in-Move.is (moves _ _ _ _ _ _ _ _ _
    (h ∙ ap (set_name c.in-Move.to c.in-Move.new_name c.in-Move.inode) c.in_ok-clear_name-in-Move.ensures)))

pub returns-in_ok-set_name-in-Swap : goal.returns-in_ok-set_name-in-Swap
returns-in_ok-set_name-in-Swap c = if_ok c.set_name-in-Swap-2.result c.set_name-in-Swap-2.ensures (λ h. edited _ _ _ _ _ c.in-Swap.is (swaps _ _ _ _ _ _ _ _ _
    (h ∙ ap (set_name c.in-Swap.second c.in-Swap.second_name c.in-Swap.first_inode) c.in_ok-set_name-in-Swap.ensures)))
