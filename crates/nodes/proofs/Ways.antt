-- The way to a node, one name at a time.
use Rattle.std.proofs.Common.{◌≡◌, ℕ, zero, suc, ◌-◌, ◌++◌, ◌<◌, ◌≤◌, Bool, true, false, leb, List, [], ◌∷◌, length, Option, Some, None, refl, sym, ap, ◌∙◌, append_assoc, arith}
use Rattle.std.specs.Prelude.{option_map, option_and_then, if◌then◌else◌}
use Rattle.std.proofs.lemmas.Bool.{le-leb, lt-leb}
use Rattle.std.proofs.lemmas.List.{append-nil}
use Rattle.model.specs.FiniteMap as map
use Rattle.nodes.specs.Tables.{Table, is_attached}
use Rattle.nodes.specs.Paths.{IsAdded, Way, if_short, path_of, way_by, way_to, with_name}
use Rattle.nodes.specs.declared.node.Node.{Node}

-- one step is left, or more
one_step : (t : Table) (most number : ℕ) → (most ≡ 0 → ⊥) → way_to t most number ≡ way_by t number (map.get t.nodes number) (way_to t (most - 1))
unfolding way_to
one_step t zero number some = absurd (some refl)
one_step t (suc m) number some = let e : suc m - 1 ≡ m = omega arith in rw e refl

-- none is left
pub no_step : (t : Table) (most number : ℕ) → most ≡ 0 → way_to t most number ≡ None
unfolding way_to
no_step t zero number none = refl
no_step t (suc m) number none = absurd (omega arith)

by_node : (t : Table) (most number : ℕ) (found : Option Node) → (most ≡ 0 → ⊥) → map.get t.nodes number ≡ found → way_to t most number ≡ way_by t number found (way_to t (most - 1))
by_node t most number found some is = one_step t most number some ∙ ap (λ (o : Option Node). way_by t number o (way_to t (most - 1))) is

-- a root
pub at_root : (t : Table) (most number : ℕ) (out : List ℕ) → (most ≡ 0 → ⊥) → map.get t.nodes number ≡ None → IsAdded (way_to t most number) out (Some number) out
at_root t most number out some none = ([], by_node t most number None some none, sym (append-nil out))

abbrev if_attached : Bool → Option Way → Option Way
if_attached b way = if b then way else None

-- a node that is not attached
pub unattached : (t : Table) (most number : ℕ) (node : Node) → (most ≡ 0 → ⊥) → map.get t.nodes number ≡ Some node → is_attached t number node ≡ false → way_to t most number ≡ None
unattached t most number node some is off =
    by_node t most number (Some node) some is
    ∙ ap (λ (b : Bool). if_attached b (option_map (with_name node.entry.name) (way_to t (most - 1) node.entry.parent))) off

on_way : (t : Table) (most number : ℕ) (node : Node) → (most ≡ 0 → ⊥) → map.get t.nodes number ≡ Some node → is_attached t number node ≡ true → way_to t most number ≡ option_map (with_name node.entry.name) (way_to t (most - 1) node.entry.parent)
on_way t most number node some is on =
    by_node t most number (Some node) some is
    ∙ ap (λ (b : Bool). if_attached b (option_map (with_name node.entry.name) (way_to t (most - 1) node.entry.parent))) on

-- no way to the parent
pub unattached_above : (t : Table) (most number : ℕ) (node : Node) → (most ≡ 0 → ⊥) → map.get t.nodes number ≡ Some node → is_attached t number node ≡ true → way_to t (most - 1) node.entry.parent ≡ None → way_to t most number ≡ None
unattached_above t most number node some is on none = on_way t most number node some is on ∙ ap (option_map (with_name node.entry.name)) none

-- one name further
pub further : (t : Table) (most number root : ℕ) (node : Node) (before mid after : List ℕ) → (most ≡ 0 → ⊥) → map.get t.nodes number ≡ Some node → is_attached t number node ≡ true
    → IsAdded (way_to t (most - 1) node.entry.parent) before (Some root) mid → after ≡ (mid ++ 47 ∷ []) ++ node.entry.name → IsAdded (way_to t most number) before (Some root) after
further t most number root node before mid after some is on above put = (
  above.0 ++ 47 ∷ node.entry.name,
  on_way t most number node some is on ∙ ap (option_map (with_name node.entry.name)) above.1,
  put ∙ append_assoc mid (47 ∷ []) node.entry.name ∙ ap (λ (bytes : List ℕ). bytes ++ 47 ∷ node.entry.name) above.2 ∙ append_assoc before above.0 (47 ∷ node.entry.name),
)

-- no path
pub no_path : (t : Table) (number : ℕ) → way_to t 2049 number ≡ None → path_of t number ≡ None
unfolding path_of
no_path t number none = ap (option_and_then if_short) none

-- a path, if it is short
pub path_at : (t : Table) (number root : ℕ) (bytes : List ℕ) → IsAdded (way_to t 2049 number) [] (Some root) bytes → path_of t number ≡ if_short (root, bytes)
unfolding path_of
path_at t number root bytes added = ap (option_and_then if_short) added.1 ∙ ap (λ (b : List ℕ). if_short (root, b)) (sym added.2)

-- a path that is too long, and one that is not
pub too_long : (t : Table) (number root : ℕ) (bytes : List ℕ) → 4096 < length bytes → IsAdded (way_to t 2049 number) [] (Some root) bytes → path_of t number ≡ None
too_long t number root bytes long added = let e : leb (length bytes) 4096 ≡ false = lt-leb (length bytes) 4096 long in path_at t number root bytes added ∙ ap (λ (b : Bool). if b then Some (root, bytes) else None) e

pub short : (t : Table) (number root : ℕ) (bytes : List ℕ) → length bytes ≤ 4096 → IsAdded (way_to t 2049 number) [] (Some root) bytes → path_of t number ≡ Some (root, bytes)
short t number root bytes long added = let e : leb (length bytes) 4096 ≡ true = le-leb (length bytes) 4096 long in path_at t number root bytes added ∙ ap (λ (b : Bool). if b then Some (root, bytes) else None) e
