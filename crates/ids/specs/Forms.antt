use Rattle.std.specs.Prelude.{ℕ, List}
use Rattle.std.specs.Arc.{arc_value}
use Rattle.ids.specs.declared.bytes.Form.{Form}
use Rattle.ids.specs.declared.bytes.Form.TheVariants.{Short, Few, Own, Shared}
use Rattle.ids.specs.declared.bytes.Names.{Names}
use Rattle.ids.specs.declared.bytes.Names.TheVariants as OfNames

-- The bytes, wherever they stand.
abbrev pub bytes_in : Form → List ℕ
bytes_in (Short bytes) = bytes.items
bytes_in (Few bytes) = (arc_value bytes).items
bytes_in (Own bytes) = bytes.items
bytes_in (Shared bytes) = (arc_value bytes).items

-- The names of a list, wherever they stand.
abbrev pub names_in : Names → List (List ℕ)
names_in (OfNames.Own names) = names.items
names_in (OfNames.Shared names) = (arc_value names).items
