use Rattle.history_laws.proofs.Laws.{committed_directories_are_a_tree}
use Rattle.history_laws.proofs.committed_directories_are_a_tree.Goals as goal

pub returns : goal.returns
returns c = committed_directories_are_a_tree
