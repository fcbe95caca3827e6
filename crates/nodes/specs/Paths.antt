-- The path from a root down to a node.
use Rattle.std.specs.Prelude.{◌≡◌, ℕ, zero, suc, nat_le, List, [], ◌∷◌, ◌++◌, length}
use Rattle.std.specs.Prelude.{Option, Some, None, option_map, option_and_then, if◌then◌else◌}
use Rattle.model.specs.FiniteMap as map
use Rattle.nodes.specs.Tables.{Table, is_attached}
use Rattle.nodes.specs.declared.node.Node.{Node}

-- a root, and the bytes of the names from there on
abbrev pub Way : Type 0
Way = ℕ × List ℕ

-- one name further
abbrev pub with_name : List ℕ → Way → Way
with_name name way = (way.0, way.1 ++ 47 ∷ name)

-- A number that is no node is a root. From a node that is attached the way goes on at its parent.
abbrev pub way_by : Table → ℕ → Option Node → (ℕ → Option Way) → Option Way
way_by t number None up = Some (number, [])
way_by t number (Some node) up =
    if is_attached t number node then option_map (with_name node.entry.name) (up node.entry.parent)
    else None

-- through at most so many names
unfoldable pub way_to : Table → ℕ → ℕ → Option Way
way_to t zero number = None
way_to t (suc more) number = way_by t number (map.get t.nodes number) (way_to t more)

-- a path has at most 4,096 bytes, and so at most 2,048 names
abbrev pub if_short : Way → Option Way
if_short way = if nat_le (length way.1) 4096 then Some way else None

unfoldable pub path_of : Table → ℕ → Option Way
path_of t number = option_and_then if_short (way_to t 2049 number)

-- a way was added behind these bytes, and its root was given; or there is none
abbrev pub IsAdded : Option Way → List ℕ → Option ℕ → List ℕ → Type 0
IsAdded way before (Some root) after =
    (more : List ℕ) × (way ≡ Some (root, more)) × (after ≡ before ++ more)
IsAdded way before None after = way ≡ None
