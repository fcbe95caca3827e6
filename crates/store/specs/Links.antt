-- How many names give a number.
use Rattle.std.specs.Prelude.{ℕ, ◌==◌, Some}
use Rattle.std.specs.Ordering.{nat_cmp}
use Rattle.std.specs.List.{sum_by, count_by}
use Rattle.model.specs.FiniteMap.{FinMap, values}
use Rattle.model.specs.State.{Inode, names_of_inode}

-- how many names of shown directories give this number
abbrev pub links_in : FinMap nat_cmp Inode → ℕ → ℕ
links_in inodes n =
    sum_by (λ inode. count_by (λ m. m == n) (values (names_of_inode (Some inode)))) (values inodes)
