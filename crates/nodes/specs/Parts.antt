-- What contracts see of the three tables, and of all together.
use Rattle.std.specs.Prelude.{ℕ, nat_lt, min, refl, if◌then◌else◌}
use Rattle.std.specs.Coded.{Coded, code_by, coded×, coded_ℕ}
use Rattle.std.specs.HashMap.{HashMap}
use Rattle.std.specs.Ordering.{nat_cmp}
use Rattle.model.specs.FiniteMap as map
use Rattle.nodes.specs.DirectoryEntries.{entry_cmp, coded_entry}
use Rattle.nodes.specs.Tables.{Table, coded_node, table_code}
use Rattle.nodes.specs.declared.directory_entry.DirectoryEntry.{DirectoryEntry}
use Rattle.nodes.specs.declared.node.Node.{Node}

-- the index, and for how many more entries there is room
pub record Numbered : Type 0 where
  pub numbers : map.FinMap entry_cmp ℕ
  pub room : ℕ

abbrev pub numbered_code : Coded Numbered
numbered_code = code_by (map.FinMap entry_cmp ℕ × ℕ)
    (coded× (map.code coded_entry coded_ℕ) coded_ℕ)
    (λ i. (i.numbers, i.room)) (λ q. record { numbers = q.0; room = q.1 }) (λ _. refl)

-- the index of a table
abbrev pub numbers_in : {S : Type 0} → HashMap DirectoryEntry ℕ S → map.FinMap entry_cmp ℕ
numbers_in table = map.from_entries {R = entry_cmp} table.entries

-- the nodes of a table
abbrev pub nodes_in : {S : Type 0} → HashMap ℕ Node S → map.FinMap nat_cmp Node
nodes_in table = map.from_entries {R = nat_cmp} table.entries

-- the nodes, and for how many more there is room
pub record Listed : Type 0 where
  pub nodes : map.FinMap nat_cmp Node
  pub room : ℕ

abbrev pub listed_code : Coded Listed
listed_code = code_by (map.FinMap nat_cmp Node × ℕ)
    (coded× (map.code coded_ℕ coded_node) coded_ℕ)
    (λ l. (l.nodes, l.room)) (λ q. record { nodes = q.0; room = q.1 }) (λ _. refl)

-- how often an object was made with each number, and for how many more numbers there is room
pub record Counted : Type 0 where
  pub counts : map.FinMap nat_cmp ℕ
  pub room : ℕ

abbrev pub counted_code : Coded Counted
counted_code = code_by (map.FinMap nat_cmp ℕ × ℕ) (coded× (map.code coded_ℕ coded_ℕ) coded_ℕ)
    (λ b. (b.counts, b.room)) (λ q. record { counts = q.0; room = q.1 }) (λ _. refl)

-- The table, for how many more nodes there is room, and for how many more objects' numbers. Neither
-- room is taken for the other.
pub record Stored : Type 0 where
  pub table : Table
  pub room : ℕ
  pub birth_room : ℕ

abbrev pub stored_code : Coded Stored
stored_code = code_by (Table × (ℕ × ℕ)) (coded× table_code (coded× coded_ℕ coded_ℕ))
    (λ s. (s.table, (s.room, s.birth_room)))
    (λ q. record { table = q.0; room = q.1.0; birth_room = q.1.1 }) (λ _. refl)

-- the table of these parts
abbrev pub table_of : map.FinMap nat_cmp Node → map.FinMap entry_cmp ℕ → map.FinMap nat_cmp ℕ → ℕ → Table
table_of nodes numbers births next =
    record { nodes = nodes; numbers = numbers; births = births; next = next }

-- how many more nodes both of their tables can take, and none where no number is left
abbrev pub room_of : ℕ → ℕ → ℕ → ℕ → ℕ
room_of last next listed numbered = if nat_lt next last then min listed numbered else 0
