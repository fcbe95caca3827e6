-- The directories that are open, with the names that they had, and how they change.
use Rattle.std.specs.Prelude.{ℕ, List, [], Bool, true, false, nat_lt, if◌then◌else◌, refl}
use Rattle.std.specs.Prelude.{Option, Some, None}
use Rattle.std.specs.Coded.{Coded, code_by, coded×, coded_ℕ, coded_list, coded_bool}
use Rattle.std.specs.Ordering.{nat_cmp}
use Rattle.model.specs.FiniteMap as map
use Rattle.mount_tables.specs.declared.folders.Folder.{Folder}

-- what is known of one: its node, its names when they were taken, and whether they were read
abbrev pub Opened : Type 0
Opened = Folder

-- The open directory of each number, the number that is next, and for how many more there is room.
pub record FolderTable : Type 0 where
  pub each : map.FinMap nat_cmp Opened
  pub next : ℕ
  pub room : ℕ

abbrev pub folder_code : Coded Opened
folder_code = code_by (ℕ × (List (List ℕ) × Bool)) (coded× coded_ℕ (coded× (coded_list (coded_list coded_ℕ)) coded_bool))
    (λ f. (f.node, (f.names, f.was_read)))
    (λ q. record { node = q.0; names = q.1.0; was_read = q.1.1 }) (λ _. refl)

abbrev pub folder_table_code : Coded FolderTable
folder_table_code = code_by (map.FinMap nat_cmp Opened × (ℕ × ℕ))
    (coded× (map.code coded_ℕ folder_code) (coded× coded_ℕ coded_ℕ))
    (λ t. (t.each, (t.next, t.room)))
    (λ q. record { each = q.0; next = q.1.0; room = q.1.1 }) (λ _. refl)

-- how many more directories there is room for, and none where no number is left
abbrev pub folder_room : ℕ → ℕ → ℕ → ℕ
folder_room last next listed = if nat_lt next last then listed else 0

-- a directory that was opened, with these names
abbrev pub folder_with : ℕ → List (List ℕ) → Opened
folder_with node names = record { node = node; names = names; was_read = false }

-- the names of an open directory
abbrev pub names_by : Option Opened → List (List ℕ)
names_by (Some folder) = folder.names
names_by None = []

-- its names were taken anew, and are read
abbrev pub renewed : ℕ → List (List ℕ) → Option Opened → map.FinMap nat_cmp Opened → map.FinMap nat_cmp Opened
renewed handle names None each = each
renewed handle names (Some folder) each =
    map.insert each handle (record { node = folder.node; names = names; was_read = true })

-- its names are read
abbrev pub marked : ℕ → Option Opened → map.FinMap nat_cmp Opened → map.FinMap nat_cmp Opened
marked handle None each = each
marked handle (Some folder) each = map.insert each handle (record folder { was_read = true })
