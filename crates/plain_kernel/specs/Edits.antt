-- Edits by what they change.
use Rattle.std.specs.Prelude.{Bool, true, false, ◌+◌, ◌≤◌, length, ⊤}
use Rattle.model.specs.Limits.{largest_file}
use Rattle.model.specs.Changes.{Edit, Make_directory, Make_file, Make_fixed, Name_file, Unname_file}
use Rattle.model.specs.Changes.{Unname_directory, Move, Swap, Wipe, Set_offset, Open_inode, Make_pipe}
use Rattle.model.specs.Changes.{Share_slot, Clear_slot, New_process, End_process, Put_bytes, Cut}

-- whether an edit is of names
abbrev pub is_of_names : Edit → Bool
is_of_names (Make_directory d name i) = true
is_of_names (Make_file d name i) = true
is_of_names (Make_fixed d name fixed i) = true
is_of_names (Name_file d name n) = true
is_of_names (Unname_file d name n) = true
is_of_names (Unname_directory d name n) = true
is_of_names (Move d name e other n replaced) = true
is_of_names (Swap d name n e other m) = true
is_of_names _ = false

-- whether an edit is of descriptions
abbrev pub is_of_descriptions : Edit → Bool
is_of_descriptions (Set_offset d offset) = true
is_of_descriptions (Open_inode i inode mode pid f) = true
is_of_descriptions (Make_pipe i pid f g) = true
is_of_descriptions _ = false

-- whether an edit is of descriptions or of processes
abbrev pub is_of_processes : Edit → Bool
is_of_processes (Set_offset d offset) = true
is_of_processes (Open_inode i inode mode pid f) = true
is_of_processes (Make_pipe i pid f g) = true
is_of_processes (Share_slot pid f d pipes) = true
is_of_processes (Clear_slot pid f pipes) = true
is_of_processes (New_process child parent pipes) = true
is_of_processes (End_process pid pipes) = true
is_of_processes _ = false

-- a write ends where a file can end, and so do bytes that become zero, and a cut leaves no more than that
abbrev pub EndsWithin : Edit → Type 0
EndsWithin (Put_bytes n offset bytes before) = offset + length bytes ≤ largest_file
EndsWithin (Wipe n offset count) = offset + count ≤ largest_file
EndsWithin (Cut n before after) = after ≤ largest_file
EndsWithin _ = ⊤
