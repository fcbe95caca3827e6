-- The bodies of requests, which stand behind the header, each as Linux lays it out. An offset is
-- counted from the body's first byte.
use Rattle.std.specs.Prelude.{ℕ, zero, suc, ◌+◌, ◌*◌, ◌==◌, nat_lt, bit_and, Bool, not}
use Rattle.std.specs.Prelude.{List, [], ◌∷◌, length, drop}
use Rattle.std.specs.Prelude.{Option, Some, None, option_map, if◌then◌else◌}
use Rattle.fuse.specs.declared.request.Changes.{Changes}
use Rattle.fuse.specs.declared.forgets.Forget.{Forget}
use Rattle.fuse.specs.declared.request.Operation.{Operation}
use Rattle.fuse.specs.declared.request.Operation.TheVariants as op
use Rattle.fuse.specs.declared.request.TimeChange.{TimeChange}
use Rattle.fuse.specs.declared.request.TimeChange.TheVariants as time
use Rattle.fuse.specs.declared.request.Whence.{Whence}
use Rattle.fuse.specs.declared.request.Whence.TheVariants as whence
use Rattle.fuse.specs.Names.{name_and_text_in, name_in, names_in}
use Rattle.fuse.specs.Numbers.{u32_at, u64_at}

-- the value, where there are exactly so many bytes
abbrev pub of_length : {A : Type 0} → ℕ → List ℕ → A → Option A
of_length n body x = if length body == n then Some x else None

-- what the bytes behind the first n are, where there are so many
abbrev pub behind : {A : Type 0} → ℕ → (List ℕ → Option A) → List ℕ → Option A
behind n f body = if nat_lt (length body) n then None else f (drop n body)

-- whether this bit of the mask is set
abbrev pub is_set : ℕ → ℕ → Bool
is_set mask bit = not (bit_and mask bit == 0)

-- the value, where this bit of the mask is set
abbrev pub where_set : {A : Type 0} → ℕ → ℕ → A → Option A
where_set mask bit x = if bit_and mask bit == 0 then None else Some x

-- ---- names

unfoldable pub lookup_in : List ℕ → Option Operation
lookup_in body = option_map (λ name. op.Lookup name) (name_in body)

-- the name, and the target of the link (fs/fuse/dir.c, fuse_symlink: in this order)
unfoldable pub symlink_in : List ℕ → Option Operation
symlink_in body = option_map (λ texts. op.SymLink texts.0 texts.1) (name_and_text_in body)

-- mode, device, umask and padding, and the name
unfoldable pub mknod_in : List ℕ → Option Operation
mknod_in body = option_map (λ name. op.MkNod name (u32_at body 0)) (behind 16 name_in body)

-- mode and umask, and the name
unfoldable pub mkdir_in : List ℕ → Option Operation
mkdir_in body = option_map (λ name. op.MkDir name (u32_at body 0)) (behind 8 name_in body)

unfoldable pub unlink_in : List ℕ → Option Operation
unlink_in body = option_map (λ name. op.Unlink name) (name_in body)

unfoldable pub rmdir_in : List ℕ → Option Operation
rmdir_in body = option_map (λ name. op.RmDir name) (name_in body)

-- the new parent, and the two names
unfoldable pub rename_in : List ℕ → Option Operation
rename_in body =
    option_map (λ names. op.Rename names.0 (u64_at body 0) names.1 0) (behind 8 names_in body)

-- the new parent, the flags and padding, and the two names
unfoldable pub rename2_in : List ℕ → Option Operation
rename2_in body =
    option_map (λ names. op.Rename names.0 (u64_at body 0) names.1 (u32_at body 8))
    (behind 16 names_in body)

-- the node that gets a further name, and that name
unfoldable pub link_in : List ℕ → Option Operation
link_in body = option_map (λ name. op.Link (u64_at body 0) name) (behind 8 name_in body)

-- flags, mode, umask and flags of the protocol, and the name
unfoldable pub create_in : List ℕ → Option Operation
create_in body =
    option_map (λ name. op.Create name (u32_at body 0) (u32_at body 4) (u32_at body 12))
    (behind 16 name_in body)

-- ---- open files

-- flags, and flags of the protocol
unfoldable pub open_in : List ℕ → Option Operation
open_in body = of_length 8 body (op.Open (u32_at body 0) (u32_at body 4))

-- handle, offset, size, flags of the read, owner of locks, flags of the open and padding
unfoldable pub read_in : List ℕ → Option Operation
read_in body =
    of_length 40 body (op.Read (u64_at body 0) (u64_at body 8) (u32_at body 16) (u32_at body 32))

-- the same fields, and as many bytes as they say
unfoldable pub write_in : List ℕ → Option Operation
write_in body =
    if nat_lt (length body) 40 then None
    else if 40 + u32_at body 16 == length body then
    Some (op.Write (u64_at body 0) (u64_at body 8) (u32_at body 20) (u32_at body 32) (drop 40 body))
    else None

-- handle, flags of the open, flags of the release, owner of locks
unfoldable pub release_in : List ℕ → Option Operation
release_in body = of_length 24 body (op.Release (u64_at body 0) (u32_at body 8))

-- handle, flags and padding
unfoldable pub fsync_in : List ℕ → Option Operation
fsync_in body = of_length 16 body (op.Fsync (u64_at body 0))

-- handle, two numbers without meaning, owner of locks
unfoldable pub flush_in : List ℕ → Option Operation
flush_in body = of_length 24 body (op.Flush (u64_at body 0))

-- from where an offset counts
unfoldable pub whence_of : ℕ → Option Whence
whence_of number =
    if number == 0 then Some whence.Start
    else if number == 1 then Some whence.Current
    else if number == 2 then Some whence.End
    else if number == 3 then Some whence.NextData
    else if number == 4 then Some whence.NextHole else None

-- handle, offset, from where it counts, and padding
unfoldable pub lseek_in : List ℕ → Option Operation
lseek_in body =
    if length body == 24 then
    option_map (λ from. op.Lseek (u64_at body 0) (u64_at body 8) from) (whence_of (u32_at body 16))
    else None

-- handle, offset, length, mode and padding
unfoldable pub fallocate_in : List ℕ → Option Operation
fallocate_in body =
    of_length 32 body
    (op.Fallocate (u64_at body 0) (u64_at body 8) (u64_at body 16) (u32_at body 24))

-- handle and offset, the other node with its handle and offset, length and flags
unfoldable pub copy_file_range_in : List ℕ → Option Operation
copy_file_range_in body =
    of_length 56 body
    (op.CopyFileRange (u64_at body 0) (u64_at body 8) (u64_at body 16) (u64_at body 24)
    (u64_at body 32) (u64_at body 40) (u64_at body 48))

-- ---- directories and nodes

unfoldable pub readlink_in : List ℕ → Option Operation
readlink_in body = of_length 0 body op.ReadLink

-- as of an open file
unfoldable pub opendir_in : List ℕ → Option Operation
opendir_in body = of_length 8 body op.OpenDir

-- the fields of a read
unfoldable pub readdir_in : List ℕ → Option Operation
readdir_in body =
    of_length 40 body (op.ReadDir (u64_at body 0) (u64_at body 8) (u32_at body 16))

-- as of an open file
unfoldable pub releasedir_in : List ℕ → Option Operation
releasedir_in body = of_length 24 body (op.ReleaseDir (u64_at body 0))

-- flags, a number without meaning, and a handle where bit 0 of the flags is set
unfoldable pub getattr_in : List ℕ → Option Operation
getattr_in body = of_length 16 body (op.GetAttr (where_set (u32_at body 0) 1 (u64_at body 8)))

-- A time that is set, where one bit is set, and set to now, where the other is set too. The kernel
-- fills the time in both ways: its own clock's, where it is set to now.
abbrev pub time_change : ℕ → ℕ → ℕ → ℕ → ℕ → Option TimeChange
time_change mask bit now seconds nanoseconds =
    if bit_and mask bit == 0 then None
    else if bit_and mask now == 0 then
    Some (time.At (record { seconds = seconds; nanoseconds = nanoseconds }))
    else Some (time.Now (record { seconds = seconds; nanoseconds = nanoseconds }))

-- The mask is the first number. Its bits: mode 1, uid 2, gid 4, size 8, time of access 16, time of
-- modification 32, handle 64, access now 128, modification now 256, set-user-ID and set-group-ID
-- taken away 2048. The time of the change of attributes, the owner of locks and padding are left
-- out.
unfoldable pub changes_in : List ℕ → Changes
changes_in body = record {
  handle = where_set (u32_at body 0) 64 (u64_at body 8);
  size = where_set (u32_at body 0) 8 (u64_at body 16);
  accessed = time_change (u32_at body 0) 16 128 (u64_at body 32) (u32_at body 56);
  modified = time_change (u32_at body 0) 32 256 (u64_at body 40) (u32_at body 60);
  mode = where_set (u32_at body 0) 1 (u32_at body 68);
  uid = where_set (u32_at body 0) 2 (u32_at body 76);
  gid = where_set (u32_at body 0) 4 (u32_at body 80);
  drops_set_ids = is_set (u32_at body 0) 2048;
}

unfoldable pub setattr_in : List ℕ → Option Operation
setattr_in body = of_length 88 body (op.SetAttr (changes_in body))

-- mask and padding
unfoldable pub access_in : List ℕ → Option Operation
access_in body = of_length 8 body (op.Access (u32_at body 0))

unfoldable pub statfs_in : List ℕ → Option Operation
statfs_in body = of_length 0 body op.StatFs

-- ---- the session

-- Major, minor, most bytes read ahead, and flags. Later kernels say more, which is left out.
unfoldable pub init_in : List ℕ → Option Operation
init_in body =
    if nat_lt (length body) 16 then None
    else Some (op.Init (u32_at body 0) (u32_at body 4) (u32_at body 8) (u32_at body 12))

unfoldable pub destroy_in : List ℕ → Option Operation
destroy_in body = of_length 0 body op.Destroy

-- the number of the request that is to end
unfoldable pub interrupt_in : List ℕ → Option Operation
interrupt_in body = of_length 8 body (op.Interrupt (u64_at body 0))

-- how many lookups are forgotten
unfoldable pub forget_in : List ℕ → Option Operation
forget_in body = of_length 8 body (op.Forget (u64_at body 0))

-- so many nodes, each with how many lookups are forgotten
unfoldable pub forgets_in : ℕ → List ℕ → List Forget
forgets_in zero bytes = []
forgets_in (suc n) bytes =
    record { node = u64_at bytes 0; lookups = u64_at bytes 8 } ∷ forgets_in n (drop 16 bytes)

-- their count and padding, and as many as it says
unfoldable pub batch_forget_in : List ℕ → Option Operation
batch_forget_in body =
    if nat_lt (length body) 8 then None
    else if 8 + 16 * u32_at body 0 == length body then
    Some (op.BatchForget (forgets_in (u32_at body 0) (drop 8 body))) else None
