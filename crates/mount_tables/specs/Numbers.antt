-- What nodes are by their numbers.
use Rattle.std.specs.Prelude.{ℕ, ◌-◌, ◌+◌, ◌*◌, ◌^◌, ◌/◌, ◌%◌, ◌==◌, ◌&&◌, min, nat_lt, List, Bool, Option, Some, None}
use Rattle.std.specs.Prelude.{codes, is_some, if◌then◌else◌}
use Rattle.std.specs.Str.{bytes_eq}
use Rattle.nodes.specs.declared.nodes.TheConstants.{LAST_NUMBER}
use Rattle.mount_tables.specs.declared.numbers.Class.{Class}
use Rattle.mount_tables.specs.declared.numbers.Class.TheVariants.{Tree, Transactions, Control}

-- 2 is the directory of transactions, and the odd ones above those of all nodes end transactions
abbrev pub class_of : ℕ → Class
class_of node =
    if node == 2 then Transactions
    else if nat_lt LAST_NUMBER node && node % 2 == 1 then Control ((node - LAST_NUMBER) / 2)
    else Tree

-- 1 is the root of the plain tree, and the even ones above are those of transactions
abbrev pub view_of : ℕ → Option ℕ
view_of root =
    if root == 1 then Some 0
    else if nat_lt LAST_NUMBER root && root % 2 == 0 then Some ((root - LAST_NUMBER) / 2)
    else None

-- the root of a view, and the file by which its transaction is ended
abbrev pub root_node : ℕ → ℕ
root_node view =
    if view == 0 then 1 else min (LAST_NUMBER + min (view * 2) (2 ^ 64 - 1)) (2 ^ 64 - 1)

abbrev pub control_node : ℕ → ℕ
control_node view = min (root_node view + 1) (2 ^ 64 - 1)

-- the name of the directory of transactions, in a root
abbrev pub is_reserved : ℕ → List ℕ → Bool
is_reserved node name = is_some (view_of node) && bytes_eq name (codes ".tx")
