-- Operations in a row on a fresh kernel, to check worked rows by. All of it computes.
use Rattle.std.specs.Prelude.{ℕ, List, [], ◌∷◌, Option, Some, Result, ⊤}
use Rattle.model.specs.FiniteMap.{computes}
use Rattle.model.specs.State.{Kernel, Kind, A_file, A_directory, A_pipe, A_link, A_fifo, A_socket}
use Rattle.model.specs.State.{Rights, links, ends}
use Rattle.ids.specs.Rights.{first_rights}
use Rattle.model.specs.Plan.{Errno}
use Rattle.model.specs.Changes.{all_applied, applied, tidy, holders, openings}
use Rattle.model.specs.Calls.{OpenFlags, NewOwner, Call, Answer, Stated}
use Rattle.model.specs.Steps.{reply, edits}
use Rattle.model.specs.Limits.{Bounds, default_bounds}
use Rattle.model.specs.Moments.{Setup, start}

-- what a run of calls goes through, opened
unfoldable pub runs : ⊤
unfolding computes applied tidy links ends holders openings
runs = tt

-- these priorities, and the bounds where none are given
abbrev pub by_default : List ℕ → Setup
by_default priorities = record { priorities = priorities; bounds = default_bounds }

-- a kernel with two processes and the root alone, whose number is 0, and with these bounds
abbrev pub fresh_within : Bounds → Kernel
fresh_within bounds = start 0 (record { priorities = 0 ∷ 0 ∷ []; bounds = bounds })

-- with files of at most so many bytes; with so many descriptors; with paths of so many bytes
abbrev pub fresh_with : ℕ → Kernel
fresh_with largest = fresh_within (record default_bounds { file_bytes = largest })

abbrev pub fresh_opening : ℕ → Kernel
fresh_opening descriptors = fresh_within (record default_bounds { descriptors = descriptors })

abbrev pub fresh_walking : ℕ → Kernel
fresh_walking path_bytes = fresh_within (record default_bounds { path_bytes = path_bytes })

abbrev pub fresh : Kernel
fresh = start 0 (by_default (0 ∷ 0 ∷ []))

-- a line: who calls what, and the numbers of the new objects
abbrev pub Line : Type 0
Line = ℕ × Call × List ℕ

abbrev pub after_line : Kernel → Line → Kernel
after_line k c = tidy (all_applied c.2 (edits k c.0 c.1) k)

abbrev pub last_state : Kernel → List Line → Kernel
last_state k [] = k
last_state k (c ∷ cs) = last_state (after_line k c) cs

abbrev pub script_replies : Kernel → List Line → List (Result Answer Errno)
script_replies k [] = []
script_replies k (c ∷ cs) = reply k c.0 c.1 ∷ script_replies (after_line k c) cs

abbrev pub flags : ℕ → OpenFlags
flags bits = record { 0 = bits }

abbrev pub rdonly : OpenFlags
rdonly = flags 1

abbrev pub wronly : OpenFlags
wronly = flags 2

abbrev pub rdwr : OpenFlags
rdwr = flags 3

abbrev pub wronly_creat : OpenFlags
wronly_creat = flags 6

abbrev pub rdwr_creat : OpenFlags
rdwr_creat = flags 7

-- what `stat` tells of an object with these rights
abbrev pub told_with : Rights → Kind → ℕ → ℕ → ℕ → Answer
told_with rights kind n size links =
    Stated (record { kind = kind; num = n; size = size; links = links; rights = rights })

-- with the first rights of its kind
abbrev pub told : Kind → ℕ → ℕ → ℕ → Answer
told kind = told_with (first_rights (Some kind)) kind

abbrev pub rights : ℕ → ℕ → ℕ → Rights
rights permissions user group =
    record { permissions = permissions; owner = record { user = user; group = group } }

abbrev pub new_owner : Option ℕ → Option ℕ → NewOwner
new_owner user group = record { user = user; group = group }

-- what `stat` tells of a file, a directory and a pipe, and `lstat` of a symbolic link, a FIFO and a
-- socket, each with its first rights
abbrev pub a_file : ℕ → ℕ → ℕ → Answer
a_file = told A_file

abbrev pub a_directory : ℕ → Answer
a_directory n = told A_directory n 0 1

abbrev pub a_pipe : ℕ → Answer
a_pipe n = told A_pipe n 0 0

abbrev pub a_link : ℕ → ℕ → ℕ → Answer
a_link = told A_link

abbrev pub a_fifo : ℕ → ℕ → Answer
a_fifo n links = told A_fifo n 0 links

abbrev pub a_socket : ℕ → ℕ → Answer
a_socket n links = told A_socket n 0 links
