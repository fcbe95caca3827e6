-- The plan of each call: its tests in order, its answer, and its edits
-- (POSIX.1-2017, the function of each name).
use Rattle.std.specs.Prelude.{ℕ, suc, ◌+◌, ◌-◌, ◌/◌, ℤ, pos, negsuc, ◌+ℤ◌, List, [], ◌∷◌, ◌++◌, Bool}
use Rattle.std.specs.Prelude.{true, false, not, ◌&&◌, ◌||◌, Option, Some, None, ◌==◌, nat_lt}
use Rattle.std.specs.Prelude.{nat_le, if◌then◌else◌, length, take, min, ⊤}
use Rattle.std.specs.List.{flat_map, list_any}
use Rattle.std.specs.Map.{lookup}
pub use Rattle.model.specs.Limits.{most_moved, descriptor_limit, most_processes, whole_write}
pub use Rattle.model.specs.Limits.{target_limit}
use Rattle.model.specs.State.{Kind, A_file, A_directory, A_pipe, A_link, A_fifo, A_socket}
use Rattle.model.specs.State.{Link_to, Rights}
use Rattle.model.specs.Plan.{EAGAIN, EBADF, EBUSY, EEXIST, EFBIG, EINVAL, EISDIR, ELOOP, EMFILE}
use Rattle.model.specs.Plan.{ENAMETOOLONG, ENOENT, ENOTDIR, ENOTEMPTY, ENXIO, EPERM, EPIPE, ESPIPE}
use Rattle.model.specs.Plan.{List_names, Measure, Read_file, Count_links, Count_ends, Find_offset}
use Rattle.model.specs.Plan.{Read_pipe, Fit, Read_target, Find_rights, Pass_blocks, block_length}
use Rattle.model.specs.Plan.{Plan, Give, Refuse, ◌>>=◌}
use Rattle.model.specs.Plan.{◌>>◌, ask, refuse_if, or_refuse}
use Rattle.model.specs.Holes.{behind_blocks}
use Rattle.model.specs.Paths.{is_empty, is_below}
use Rattle.model.specs.Walks.{parsed, walk, last_of, Last, Place, is_directory, is_link}
use Rattle.model.specs.Changes.{There, Made, Mode, Edit, Make_directory, Make_file, Make_fixed}
use Rattle.model.specs.Changes.{Name_file, Unname_file, Unname_directory, Move, Put_bytes, Cut, Take, Append}
use Rattle.model.specs.Changes.{Replaced, Over_nothing, Over_file, Over_directory, Swap, Wipe}
use Rattle.model.specs.Changes.{Set_offset, Set_rights, Open_inode, Make_pipe, Share_slot, Clear_slot}
use Rattle.model.specs.Changes.{New_process, End_process}
use Rattle.ids.specs.Fixed.{special_object}
use Rattle.ids.specs.Rights.{permitted, owned}
use Rattle.ids.specs.Flags.{is_reading, is_writing, is_creating, is_exclusive, is_truncating}
use Rattle.ids.specs.Flags.{is_appending}
use Rattle.model.specs.Calls.{OpenFlags, Whence, From_start, From_offset, From_end, To_data, To_hole}
use Rattle.model.specs.Calls.{Space, Grow, Keep, Punch, Exchange, Fallocate, Call, Open}
use Rattle.model.specs.Calls.{Close, Read, Pread, Write, Pwrite, Lseek, Ftruncate, Truncate, Stat}
use Rattle.model.specs.Calls.{Fstat, Link, Unlink, Rename, Mkdir, Rmdir, List_directory, Symlink}
use Rattle.model.specs.Calls.{Readlink, Lstat, Mknod, Chmod, Chown, Fchmod, Fchown, Dup, Dup2}
use Rattle.model.specs.Calls.{Open_pipe, Fork, Exit, Answer, Done, Descriptor, Count, New_place}
use Rattle.model.specs.Calls.{Bytes, Pair, Stated, Listing, Child, Slot, Own}

-- what a call answers and changes
pub record Change : Type 0 where
  pub reply : Answer
  pub edits : List Edit

abbrev pub changed : Answer → List Edit → Plan Change
changed reply edits = Give (record { reply = reply; edits = edits })

abbrev pub unchanged : Answer → Plan Change
unchanged reply = changed reply []

-- the descriptors from f on, so many, that the table does not have
abbrev pub free_from : List (ℕ × Slot) → ℕ → ℕ → List ℕ
free_from table f ℕ.zero = []
free_from table f (suc more) =
    if list_any (λ e. e.0 == f) table then free_from table (suc f) more
    else f ∷ free_from table (suc f) more

-- how many descriptors its process may have: those that the kernel lets one have, and never more than
-- one can have at all (OPEN_MAX)
abbrev pub open_limit : Own → ℕ
open_limit own = min own.bounds.descriptors descriptor_limit

abbrev pub free : Own → List ℕ
free own = free_from own.table 0 (open_limit own)

abbrev pub first_of_free : List ℕ → Plan ℕ
first_of_free [] = Refuse EMFILE
first_of_free (f ∷ fs) = Give f

abbrev pub slot_at : Own → ℕ → Option Slot
slot_at own f = lookup (λ g. g == f) own.table

abbrev pub slot : Own → ℕ → Plan Slot
slot own f = or_refuse EBADF (slot_at own f)

abbrev pub is_pipe : Option Kind → Bool
is_pipe (Some A_pipe) = true
is_pipe _ = false

-- its pipe, where it is a description of one
abbrev pub pipe_in : Option Slot → List ℕ
pipe_in (Some s) = if is_pipe s.kind then s.inode ∷ [] else []
pipe_in None = []

-- each number once, where it stands first
abbrev pub each_once : List ℕ → List ℕ → List ℕ
each_once before [] = []
each_once before (n ∷ ns) =
    if list_any (λ m. m == n) before then each_once before ns else n ∷ each_once (n ∷ before) ns

abbrev pub pipes_in : Own → List ℕ
pipes_in own = each_once [] (flat_map (λ e. pipe_in (Some e.1)) own.table)

-- with its rights, which are asked for last
abbrev pub stated : Kind → ℕ → ℕ → ℕ → Plan Change
stated kind n size links = do
  rights ← ask (Find_rights n)
  unchanged
      (Stated (record { kind = kind; num = n; size = size; links = links; rights = rights }))

abbrev pub status : Place → Plan Change
status (n, Some A_file) = do
  size ← ask (Measure n)
  links ← ask (Count_links n)
  stated A_file n size links
status (n, Some A_directory) = stated A_directory n 0 1
status (n, Some A_pipe) = stated A_pipe n 0 0
status (n, Some A_link) = do
  target ← ask (Read_target n)
  links ← ask (Count_links n)
  stated A_link n (length target) links
status (n, Some A_fifo) = do
  links ← ask (Count_links n)
  stated A_fifo n 0 links
status (n, Some A_socket) = do
  links ← ask (Count_links n)
  stated A_socket n 0 links
-- a number that stands for nothing, which no well-formed state has
status (n, None) = Refuse ENOENT

-- An inode's rights are made others. No permission is checked, here or in any plan: whoever has the
-- kernel is its superuser (POSIX.1-2017, 4.5 File Access Permissions: appropriate privileges).
abbrev pub revised : ℕ → (Rights → Rights) → Plan Change
revised n change = do
  rights ← ask (Find_rights n)
  changed Done (Set_rights n (change rights) ∷ [])

abbrev pub mode : OpenFlags → Mode
mode flags = record {
  reading = is_reading flags;
  writing = is_writing flags;
  appending = is_appending flags;
}

-- a FIFO or a socket: nothing is behind such a name
abbrev pub is_special : Place → Bool
is_special (n, Some A_fifo) = true
is_special (n, Some A_socket) = true
is_special _ = false

abbrev pub cut_to : ℕ → ℕ → Plan (List Edit)
cut_to n len = do
  size ← ask (Measure n)
  Give (Cut n size len ∷ [])

abbrev pub opened : Own → OpenFlags → ℕ → Last → Option Place → Plan Change
opened own flags f at None = do
  refuse_if (not (is_creating flags)) ENOENT
  changed (Descriptor f)
      (Make_file at.parent at.name 0 ∷ Open_inode 1 (Made 0) (mode flags) own.pid f ∷ [])
opened own flags f at (Some place) = do
  refuse_if (is_creating flags && is_exclusive flags) EEXIST
  refuse_if (is_directory place) EISDIR
  refuse_if (is_link place) ELOOP
  refuse_if (is_special place) ENXIO
  cut ← if is_truncating flags then cut_to place.0 0 else Give []
  changed (Descriptor f) (cut ++ Open_inode 0 (There place.0) (mode flags) own.pid f ∷ [])

abbrev pub read_pipe : ℕ → List ℕ → Plan Change
read_pipe p [] = do
  ends ← ask (Count_ends p)
  refuse_if (nat_lt 0 ends.1) EAGAIN
  unchanged (Bytes [])
read_pipe p (b ∷ bytes) = changed (Bytes (b ∷ bytes)) (Take p (length (b ∷ bytes)) ∷ [])

abbrev pub read_some : Slot → ℕ → Plan Change
read_some it count =
    if is_pipe it.kind then (do
      bytes ← ask (Read_pipe it.inode count)
      read_pipe it.inode bytes)
    else (do
      offset ← ask (Find_offset it.description)
      bytes ← ask (Read_file it.inode offset (min count most_moved))
      changed (Bytes bytes)
          (if is_empty bytes then [] else Set_offset it.description (offset + length bytes) ∷ []))

abbrev pub place_to_write : Slot → Bool → Plan ℕ
place_to_write it true = ask (Measure it.inode)
place_to_write it false = ask (Find_offset it.description)

-- how many bytes one write can put at a place of a file that may have so many
abbrev pub room : ℕ → ℕ → ℕ
room largest place = min (largest - place) most_moved

abbrev pub write_some : ℕ → Slot → List ℕ → Plan Change
write_some largest it bytes =
    if is_pipe it.kind then (do
      ends ← ask (Count_ends it.inode)
      refuse_if (ends.0 == 0) EPIPE
      fitting ← ask (Fit it.inode (length bytes))
      refuse_if (nat_lt fitting (length bytes) && nat_le (length bytes) whole_write) EAGAIN
      refuse_if (fitting == 0) EAGAIN
      changed (Count fitting) (Append it.inode (take fitting bytes) ∷ []))
    else (do
      place ← place_to_write it it.appending
      refuse_if (nat_le largest place) EFBIG
      size ← ask (Measure it.inode)
      changed (Count (length (take (room largest place) bytes)))
          (Put_bytes it.inode place (take (room largest place) bytes) size
          ∷ Set_offset it.description (place + length (take (room largest place) bytes)) ∷ []))

-- an offset that a call names: there is none before the first byte
abbrev pub offset_named : ℤ → Option ℕ
offset_named (pos offset) = Some offset
offset_named (negsuc offset) = None

-- a read and a write from an offset on, on a file alone: no description's offset is seen or moved
abbrev pub read_from : ℕ → ℕ → ℕ → Plan Change
read_from n offset count = do
  bytes ← ask (Read_file n offset (min count most_moved))
  unchanged (Bytes bytes)

abbrev pub write_from : ℕ → ℕ → ℕ → List ℕ → Plan Change
write_from largest n offset bytes = do
  refuse_if (nat_le largest offset) EFBIG
  size ← ask (Measure n)
  changed (Count (length (take (room largest offset) bytes)))
      (Put_bytes n offset (take (room largest offset) bytes) size ∷ [])

abbrev pub sought : ℕ → Slot → ℤ → Plan Change
sought largest it (pos place) = do
  refuse_if (nat_lt largest place) EINVAL
  changed (New_place place) (Set_offset it.description place ∷ [])
sought largest it (negsuc place) = Refuse EINVAL

-- the next place of a file from one on that is in a hole, or in none; the end is a hole, and behind it
-- nothing is (Linux, lseek: SEEK_HOLE, SEEK_DATA)
abbrev pub found_from : Bool → ℕ → ℕ → Plan ℕ
found_from holes n from = do
  size ← ask (Measure n)
  refuse_if (nat_le size from) ENXIO
  passed ← ask (Pass_blocks (not holes) n (from / block_length)
      (suc ((size - 1) / block_length - from / block_length)))
  refuse_if (not holes && nat_le size (behind_blocks from passed)) ENXIO
  Give (min size (behind_blocks from passed))

-- the offset that a whence and a distance come to
abbrev pub aimed : Slot → ℤ → Whence → Plan ℤ
aimed it move From_start = Give move
aimed it move From_offset = do
  offset ← ask (Find_offset it.description)
  Give (pos offset +ℤ move)
aimed it move From_end = do
  size ← ask (Measure it.inode)
  Give (pos size +ℤ move)
aimed it move To_data = do
  from ← or_refuse ENXIO (offset_named move)
  place ← found_from false it.inode from
  Give (pos place)
aimed it move To_hole = do
  from ← or_refuse ENXIO (offset_named move)
  place ← found_from true it.inode from
  Give (pos place)

-- a length that a call names: there is none of no byte
abbrev pub length_named : ℤ → Option ℕ
length_named (pos ℕ.zero) = None
length_named (pos (suc more)) = Some (suc more)
length_named (negsuc more) = None

-- what becomes of a range of a file: it reaches to the range's end at least, nothing shows, or what it
-- has of the range is zero
abbrev pub spaced : ℕ → ℕ → ℕ → Space → Plan Change
spaced n at count Grow = do
  size ← ask (Measure n)
  changed Done (if nat_lt size (at + count) then Cut n size (at + count) ∷ [] else [])
spaced n at count Keep = unchanged Done
spaced n at count Punch = do
  size ← ask (Measure n)
  changed Done (if nat_lt at size then Wipe n at (min count (size - at)) ∷ [] else [])

-- what loses the name: a directory, which must be empty, or anything else
abbrev pub replaced_by_name : ℕ → Bool → Plan Replaced
replaced_by_name n true = do
  names ← ask (List_names n)
  refuse_if (not (is_empty names)) ENOTEMPTY
  Give (Over_directory n)
replaced_by_name n false = Give (Over_file n)

abbrev pub move_onto : Last → Place → Last → Place → Plan Change
move_onto from what to old =
    if what.0 == old.0 then unchanged Done else (do
      refuse_if (not (is_directory what) && is_directory old) EISDIR
      refuse_if (is_directory what && not (is_directory old)) ENOTDIR
      replaced ← replaced_by_name old.0 (is_directory old)
      changed Done (Move from.parent from.name to.parent to.name what.0 replaced ∷ []))

abbrev pub moved : Last → Place → Last → Option Place → Plan Change
moved from what to None =
    changed Done (Move from.parent from.name to.parent to.name what.0 Over_nothing ∷ [])
moved from what to (Some old) = move_onto from what to old

-- each of two names gives what the other gave; two names of one object stay as they are
abbrev pub swapped : Last → Place → Last → Place → Plan Change
swapped at what onto other =
    if what.0 == other.0 then unchanged Done
    else changed Done (Swap at.parent at.name what.0 onto.parent onto.name other.0 ∷ [])

-- a name that must not be there
abbrev pub absent : Option Place → Plan ⊤
absent None = Give tt
absent (Some place) = Refuse EEXIST

abbrev pub duplicated : Own → Slot → List ℕ → Plan Change
duplicated own it [] = Refuse EMFILE
duplicated own it (f ∷ fs) =
    changed (Descriptor f) (Share_slot own.pid f it.description (pipe_in (Some it)) ∷ [])

abbrev pub piped : Own → List ℕ → Plan Change
piped own (f ∷ g ∷ fs) = changed (Pair f g) (Make_pipe 0 own.pid f g ∷ [])
piped own _ = Refuse EMFILE

abbrev pub forked : Own → Option (ℕ × ℕ) → Plan Change
forked own (Some (made, priority)) = do
  refuse_if (nat_le most_processes made) EAGAIN
  changed (Child (suc made)) (New_process (suc made) own.pid (pipes_in own) ∷ [])
forked own None = Refuse EAGAIN

abbrev pub plan : Own → Call → Plan Change
plan own (Open path flags) = do
  refuse_if (not (is_reading flags || is_writing flags)) EINVAL
  refuse_if (is_exclusive flags && not (is_creating flags)) EINVAL
  refuse_if (is_truncating flags && not (is_writing flags)) EINVAL
  names ← parsed own.bounds.path_bytes path
  f ← first_of_free (free own)
  at ← last_of own.root (if is_creating flags && is_exclusive flags then EEXIST else EISDIR) names
  opened own flags f at at.found
plan own (Close f) = do
  it ← slot own f
  changed Done (Clear_slot own.pid f (pipe_in (Some it)) ∷ [])
plan own (Read f count) = do
  it ← slot own f
  refuse_if (not it.reading) EBADF
  if count == 0 then unchanged (Bytes []) else read_some it count
plan own (Pread f count offset) = do
  it ← slot own f
  refuse_if (not it.reading) EBADF
  refuse_if (is_pipe it.kind) ESPIPE
  at ← or_refuse EINVAL (offset_named offset)
  if count == 0 then unchanged (Bytes []) else read_from it.inode at count
plan own (Write f bytes) = do
  it ← slot own f
  refuse_if (not it.writing) EBADF
  if is_empty bytes then unchanged (Count 0) else write_some own.bounds.file_bytes it bytes
plan own (Pwrite f bytes offset) = do
  it ← slot own f
  refuse_if (not it.writing) EBADF
  refuse_if (is_pipe it.kind) ESPIPE
  at ← or_refuse EINVAL (offset_named offset)
  if is_empty bytes then unchanged (Count 0) else write_from own.bounds.file_bytes it.inode at bytes
plan own (Lseek f move whence) = do
  it ← slot own f
  refuse_if (is_pipe it.kind) ESPIPE
  sum ← aimed it move whence
  sought own.bounds.file_bytes it sum
plan own (Ftruncate f len) = do
  it ← slot own f
  refuse_if (not it.writing) EBADF
  refuse_if (is_pipe it.kind) EINVAL
  refuse_if (nat_lt own.bounds.file_bytes len) EFBIG
  cut ← cut_to it.inode len
  changed Done cut
plan own (Truncate path len) = do
  names ← parsed own.bounds.path_bytes path
  place ← walk (own.root, Some A_directory) names
  refuse_if (is_directory place) EISDIR
  refuse_if (is_link place) ELOOP
  refuse_if (is_special place) EINVAL
  refuse_if (nat_lt own.bounds.file_bytes len) EFBIG
  cut ← cut_to place.0 len
  changed Done cut
-- the tests of a range in Linux's order: its numbers before how the file is open, and before its kind
-- (Linux, fallocate)
plan own (Fallocate f offset len space) = do
  it ← slot own f
  at ← or_refuse EINVAL (offset_named offset)
  count ← or_refuse EINVAL (length_named len)
  refuse_if (not it.writing) EBADF
  refuse_if (is_pipe it.kind) ESPIPE
  refuse_if (nat_lt own.bounds.file_bytes (at + count)) EFBIG
  spaced it.inode at count space
plan own (Stat path) = do
  names ← parsed own.bounds.path_bytes path
  place ← walk (own.root, Some A_directory) names
  refuse_if (is_link place) ELOOP
  status place
plan own (Fstat f) = do
  it ← slot own f
  status (it.inode, it.kind)
plan own (Link old path) = do
  from ← parsed own.bounds.path_bytes old
  to ← parsed own.bounds.path_bytes path
  what ← walk (own.root, Some A_directory) from
  refuse_if (is_directory what) EPERM
  at ← last_of own.root EEXIST to
  absent at.found
  changed Done (Name_file at.parent at.name what.0 ∷ [])
plan own (Unlink path) = do
  names ← parsed own.bounds.path_bytes path
  at ← last_of own.root EPERM names
  what ← or_refuse ENOENT at.found
  refuse_if (is_directory what) EPERM
  changed Done (Unname_file at.parent at.name what.0 ∷ [])
plan own (Rename old path) = do
  from ← parsed own.bounds.path_bytes old
  to ← parsed own.bounds.path_bytes path
  refuse_if (is_empty from || is_empty to) EBUSY
  at ← last_of own.root EBUSY from
  what ← or_refuse ENOENT at.found
  refuse_if (is_directory what && is_below from to) EINVAL
  onto ← last_of own.root EBUSY to
  moved at what onto onto.found
-- both paths are walked before a name is missed (Linux, renameat2: RENAME_EXCHANGE)
plan own (Exchange old path) = do
  from ← parsed own.bounds.path_bytes old
  to ← parsed own.bounds.path_bytes path
  refuse_if (is_empty from || is_empty to) EBUSY
  at ← last_of own.root EBUSY from
  onto ← last_of own.root EBUSY to
  what ← or_refuse ENOENT at.found
  other ← or_refuse ENOENT onto.found
  refuse_if (is_directory what && is_below from to) EINVAL
  refuse_if (is_directory other && is_below to from) EINVAL
  swapped at what onto other
plan own (Mkdir path) = do
  names ← parsed own.bounds.path_bytes path
  at ← last_of own.root EEXIST names
  absent at.found
  changed Done (Make_directory at.parent at.name 0 ∷ [])
plan own (Rmdir path) = do
  names ← parsed own.bounds.path_bytes path
  at ← last_of own.root EBUSY names
  what ← or_refuse ENOENT at.found
  refuse_if (not (is_directory what)) ENOTDIR
  entries ← ask (List_names what.0)
  refuse_if (not (is_empty entries)) ENOTEMPTY
  changed Done (Unname_directory at.parent at.name what.0 ∷ [])
plan own (List_directory path) = do
  names ← parsed own.bounds.path_bytes path
  place ← walk (own.root, Some A_directory) names
  refuse_if (is_link place) ELOOP
  refuse_if (not (is_directory place)) ENOTDIR
  entries ← ask (List_names place.0)
  unchanged (Listing entries)
-- a target is any bytes but none and a zero byte (symlink: ENOENT and ENAMETOOLONG; of a zero byte
-- the standard says nothing, since its arguments end at one)
plan own (Symlink target path) = do
  refuse_if (is_empty target) ENOENT
  refuse_if (nat_lt target_limit (length target)) ENAMETOOLONG
  refuse_if (list_any (λ b. b == 0) target) EINVAL
  names ← parsed own.bounds.path_bytes path
  at ← last_of own.root EEXIST names
  absent at.found
  changed Done (Make_fixed at.parent at.name (Link_to target) 0 ∷ [])
plan own (Readlink path) = do
  names ← parsed own.bounds.path_bytes path
  place ← walk (own.root, Some A_directory) names
  refuse_if (not (is_link place)) EINVAL
  target ← ask (Read_target place.0)
  unchanged (Bytes target)
plan own (Lstat path) = do
  names ← parsed own.bounds.path_bytes path
  place ← walk (own.root, Some A_directory) names
  status place
plan own (Mknod path special) = do
  names ← parsed own.bounds.path_bytes path
  at ← last_of own.root EEXIST names
  absent at.found
  changed Done (Make_fixed at.parent at.name (special_object special) 0 ∷ [])
-- a symbolic link in the last place is refused by chmod, which would follow it, and is itself what
-- this chown is about (POSIX.1-2017, chmod, lchown)
plan own (Chmod path permissions) = do
  names ← parsed own.bounds.path_bytes path
  place ← walk (own.root, Some A_directory) names
  refuse_if (is_link place) ELOOP
  revised place.0 (permitted permissions)
plan own (Chown path owner) = do
  names ← parsed own.bounds.path_bytes path
  place ← walk (own.root, Some A_directory) names
  revised place.0 (owned place.1 owner)
plan own (Fchmod f permissions) = do
  it ← slot own f
  revised it.inode (permitted permissions)
plan own (Fchown f owner) = do
  it ← slot own f
  revised it.inode (owned it.kind owner)
plan own (Dup f) = do
  it ← slot own f
  duplicated own it (free own)
plan own (Dup2 f g) = do
  it ← slot own f
  refuse_if (nat_le (open_limit own) g) EBADF
  if f == g then unchanged (Descriptor f)
      else changed (Descriptor g)
      (Share_slot own.pid g it.description (pipe_in (Some it) ++ pipe_in (slot_at own g)) ∷ [])
plan own Open_pipe = piped own (free own)
plan own Fork = forked own own.birth
plan own Exit = changed Done (End_process own.pid (pipes_in own) ∷ [])
