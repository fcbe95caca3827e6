-- In a well-formed state the directories are a tree.
use Rattle.std.proofs.Common.{◌≡◌, ◌+◌, ◌++◌, length, ap, ◌∙◌, sym, arith, length-append}
use Rattle.model.proofs.Laws.{nothing_left}
use Rattle.call_laws.specs.Trees.{DirectoriesAreATree}
use Rattle.call_laws.proofs.edits.Tree.{both_paths}
use Rattle.call_laws.proofs.calls.NoRing.{one_path}

pub directories_are_a_tree_lem : DirectoriesAreATree
directories_are_a_tree_lem k well = record {
  path = well.leads;
  one_path = λ d p q is f g. one_path k well (length p) d p q (omega arith) is f g;
  no_ring = λ d path r h.
      let way = well.leads d r in
      let longer : way.0 ++ path ≡ way.0 = one_path k well (length (way.0 ++ path)) d (way.0 ++ path) way.0 (omega arith) r.directory (both_paths k k.root d d way.0 path way.1 h) way.1 in
      let long : length way.0 + length path ≡ length way.0 = sym (length-append way.0 path) ∙ ap length longer in
      nothing_left path (omega arith);
}
