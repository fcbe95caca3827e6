-- The state of a plain kernel: maps from numbers, and counts that are taken by counting
-- (POSIX.1-2017, 2.5 to 2.7 of the base definitions' file system and open file
-- description; unistd.h's descriptor tables).
use Rattle.std.specs.Prelude.{ℕ, List, [], Bool, false, Option, Some, None, ◌==◌, ◌&&◌}
use Rattle.model.specs.FiniteMap.{FinMap, get, empty, values}
use Rattle.std.specs.Ordering.{nat_cmp}
pub use Rattle.ids.specs.declared.reply.Kind.{Kind}
pub use Rattle.ids.specs.declared.reply.Kind.TheVariants.{File as A_file, Dir as A_directory}
pub use Rattle.ids.specs.declared.reply.Kind.TheVariants.{Pipe as A_pipe, Link as A_link}
pub use Rattle.ids.specs.declared.reply.Kind.TheVariants.{Fifo as A_fifo, Socket as A_socket}
pub use Rattle.ids.specs.declared.fixed.Fixed.{Fixed as Fixed_content}
pub use Rattle.ids.specs.declared.fixed.Fixed.TheVariants.{Link as Link_to, Fifo, Socket}
use Rattle.ids.specs.Fixed.{fixed_kind, fixed_target}
pub use Rattle.ids.specs.declared.rights.Rights.{Rights}
use Rattle.ids.specs.Rights.{first_rights}
use Rattle.std.specs.declared.cmp.Ordering.{Ordering}
use Rattle.std.specs.Cmp.Lexicographic.{slice_cmp}
use Rattle.std.specs.List.{sum_by, count_by}
pub use Rattle.model.specs.Limits.{Bounds}

abbrev pub Name : Type 0
Name = List ℕ

-- the bytes' order
abbrev pub name_cmp : Name → Name → Ordering
name_cmp = slice_cmp nat_cmp

-- a file's bytes, a directory's names with the numbers that they give, a pipe's bytes, oldest
-- first, or what never changes: a symbolic link with its target, a FIFO or a socket, which are
-- names and have no content
pub data Inode : Type 0 where
  File : List ℕ → Inode
  Directory : FinMap name_cmp ℕ → Inode
  Pipe : List ℕ → Inode
  Fixed : Fixed_content → Inode

-- an open file description: what it is open on, how, and where it reads and writes next
pub record Description : Type 0 where
  pub inode : ℕ
  pub reading : Bool
  pub writing : Bool
  pub appending : Bool
  pub offset : ℕ

-- the table leads from a descriptor to a description
pub record Process : Type 0 where
  pub table : FinMap nat_cmp ℕ
  pub priority : ℕ

-- inodes and descriptions have their numbers from one range; `rights` are those of the inodes whose
-- permissions or owner were set;
-- `made` is how many processes were ever made; `bounds` are the most bytes of a file, how many
-- descriptors a process may have, and the most bytes of a path, which nothing changes (POSIX.1-2017,
-- limits.h: the implementation's maximum file size, OPEN_MAX and PATH_MAX)
pub record Kernel : Type 0 where
  pub root : ℕ
  pub inodes : FinMap nat_cmp Inode
  pub rights : FinMap nat_cmp Rights
  pub descriptions : FinMap nat_cmp Description
  pub processes : FinMap nat_cmp Process
  pub made : ℕ
  pub bounds : Bounds

abbrev pub kind : Inode → Kind
kind (File bytes) = A_file
kind (Directory names) = A_directory
kind (Pipe bytes) = A_pipe
kind (Fixed fixed) = fixed_kind fixed

abbrev pub names_of_inode : Option Inode → FinMap name_cmp ℕ
names_of_inode (Some (Directory names)) = names
names_of_inode _ = empty

abbrev pub file_of_inode : Option Inode → List ℕ
file_of_inode (Some (File bytes)) = bytes
file_of_inode _ = []

abbrev pub pipe_of_inode : Option Inode → List ℕ
pipe_of_inode (Some (Pipe bytes)) = bytes
pipe_of_inode _ = []

abbrev pub target_of_inode : Option Inode → List ℕ
target_of_inode (Some (Fixed fixed)) = fixed_target fixed
target_of_inode _ = []

abbrev pub mapped : {A B : Type 0} → (A → B) → Option A → Option B
mapped f (Some x) = Some (f x)
mapped f None = None

-- what a number stands for, with an empty answer where it stands for nothing
abbrev pub names_of : Kernel → ℕ → FinMap name_cmp ℕ
names_of k n = names_of_inode (get k.inodes n)

abbrev pub file_of : Kernel → ℕ → List ℕ
file_of k n = file_of_inode (get k.inodes n)

abbrev pub pipe_of : Kernel → ℕ → List ℕ
pipe_of k n = pipe_of_inode (get k.inodes n)

abbrev pub target_of : Kernel → ℕ → List ℕ
target_of k n = target_of_inode (get k.inodes n)

abbrev pub kind_of : Kernel → ℕ → Option Kind
kind_of k n = mapped kind (get k.inodes n)

-- the rights that were set, or else the first ones of the kind
abbrev pub rights_or : Option Rights → Option Kind → Rights
rights_or (Some rights) kind = rights
rights_or None kind = first_rights kind

abbrev pub rights_of : Kernel → ℕ → Rights
rights_of k n = rights_or (get k.rights n) (kind_of k n)

-- the number that a name gives, and its kind
abbrev pub entry_of : Kernel → ℕ → Name → Option (ℕ × Option Kind)
entry_of k d x = mapped (λ n. (n, kind_of k n)) (get (names_of k d) x)

abbrev pub offset_in : Option Description → ℕ
offset_in (Some d) = d.offset
offset_in None = 0

abbrev pub offset_of : Kernel → ℕ → ℕ
offset_of k d = offset_in (get k.descriptions d)

-- how many names give n
unfoldable pub links : Kernel → ℕ → ℕ
links k n =
    sum_by (λ inode. count_by (λ m. m == n) (values (names_of_inode (Some inode))))
    (values k.inodes)

-- whether a description of p is open in that mode
abbrev pub is_end : (Description → Bool) → ℕ → Option Description → Bool
is_end mode p (Some d) = (d.inode == p) && mode d
is_end mode p None = false

-- how many descriptors of processes give a description of p that is open in that mode
unfoldable pub ends : Kernel → ℕ → (Description → Bool) → ℕ
ends k p mode =
    sum_by (λ process. count_by (λ d. is_end mode p (get k.descriptions d)) (values process.table))
    (values k.processes)
