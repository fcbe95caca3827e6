use Rattle.call_laws.proofs.Trees.{directories_are_a_tree_lem}
use Rattle.call_laws.proofs.directories_are_a_tree.Goals as goal

pub returns : goal.returns
returns c = directories_are_a_tree_lem
