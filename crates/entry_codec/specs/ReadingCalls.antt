-- Operations and calls as they are read.
use Rattle.std.specs.Prelude.{ℕ, ◌==◌, List, Ok, Err, if◌then◌else◌}
use Rattle.std.specs.Int.{w32}
use Rattle.ids.specs.declared.call.Whence.{Whence}
use Rattle.ids.specs.declared.call.Whence.TheVariants as whence
use Rattle.ids.specs.declared.call.Space.{Space}
use Rattle.ids.specs.declared.call.Space.TheVariants as space
use Rattle.ids.specs.declared.fixed.Special.{Special}
use Rattle.ids.specs.declared.fixed.Special.TheVariants as special
use Rattle.ids.specs.declared.rights.NewOwner.{NewOwner}
use Rattle.ids.specs.declared.flags.OpenFlags.{OpenFlags}
use Rattle.ids.specs.declared.flags.BeginFlags.{BeginFlags}
use Rattle.ids.specs.declared.call.Call.{Call}
use Rattle.ids.specs.declared.call.Call.TheVariants as call
use Rattle.ids.specs.declared.call.Op.{Op}
use Rattle.ids.specs.declared.call.Op.TheVariants as op
use Rattle.entry_codec.specs.declared.fault.Wrong.TheVariants as wrong
use Rattle.entry_codec.specs.declared.numbers.TheConstants.{WHENCE_SET, WHENCE_CUR, WHENCE_END}
use Rattle.entry_codec.specs.declared.numbers.TheConstants.{WHENCE_DATA, WHENCE_HOLE, SPACE_GROW}
use Rattle.entry_codec.specs.declared.numbers.TheConstants.{SPACE_KEEP, SPACE_PUNCH, SPECIAL_FIFO}
use Rattle.entry_codec.specs.declared.numbers.TheConstants.{SPECIAL_SOCKET}
use Rattle.entry_codec.specs.declared.numbers.TheConstants.{CALL_OPEN, CALL_CLOSE, CALL_READ}
use Rattle.entry_codec.specs.declared.numbers.TheConstants.{CALL_PREAD, CALL_WRITE, CALL_PWRITE}
use Rattle.entry_codec.specs.declared.numbers.TheConstants.{CALL_LSEEK, CALL_FTRUNCATE}
use Rattle.entry_codec.specs.declared.numbers.TheConstants.{CALL_TRUNCATE, CALL_FALLOCATE}
use Rattle.entry_codec.specs.declared.numbers.TheConstants.{CALL_STAT, CALL_FSTAT, CALL_LINK}
use Rattle.entry_codec.specs.declared.numbers.TheConstants.{CALL_UNLINK, CALL_RENAME, CALL_EXCHANGE}
use Rattle.entry_codec.specs.declared.numbers.TheConstants.{CALL_MKDIR, CALL_RMDIR, CALL_LIST}
use Rattle.entry_codec.specs.declared.numbers.TheConstants.{CALL_SYMLINK, CALL_READLINK, CALL_LSTAT}
use Rattle.entry_codec.specs.declared.numbers.TheConstants.{CALL_MKNOD, CALL_CHMOD, CALL_CHOWN}
use Rattle.entry_codec.specs.declared.numbers.TheConstants.{CALL_FCHMOD, CALL_FCHOWN, CALL_DUP}
use Rattle.entry_codec.specs.declared.numbers.TheConstants.{CALL_DUP2, CALL_PIPE, CALL_FORK}
use Rattle.entry_codec.specs.declared.numbers.TheConstants.{CALL_EXIT}
use Rattle.entry_codec.specs.declared.numbers.TheConstants.{OP_CALL, OP_BEGIN, OP_END, OP_ABORT}
use Rattle.entry_codec.specs.Reading.{Read, ◌>>=◌, fault_at, one, two, three, four, byte_at, number_at}
use Rattle.entry_codec.specs.Reading.{signed_at, text_at, flag_at, optional_at, permissions_at}

unfoldable pub whence_of : ℕ → List ℕ → Read Whence
whence_of n rest =
    if n == WHENCE_SET then Ok (whence.Set, rest)
    else if n == WHENCE_CUR then Ok (whence.Cur, rest)
    else if n == WHENCE_END then Ok (whence.End, rest)
    else if n == WHENCE_DATA then Ok (whence.Data, rest)
    else if n == WHENCE_HOLE then Ok (whence.Hole, rest)
    else Err (fault_at wrong.Variant rest)

abbrev pub whence_at : List ℕ → Read Whence
whence_at bytes = byte_at bytes >>= λ n. whence_of n.0 n.1

unfoldable pub space_of : ℕ → List ℕ → Read Space
space_of n rest =
    if n == SPACE_GROW then Ok (space.Grow, rest)
    else if n == SPACE_KEEP then Ok (space.Keep, rest)
    else if n == SPACE_PUNCH then Ok (space.Punch, rest)
    else Err (fault_at wrong.Variant rest)

abbrev pub space_at : List ℕ → Read Space
space_at bytes = byte_at bytes >>= λ n. space_of n.0 n.1

unfoldable pub special_of : ℕ → List ℕ → Read Special
special_of n rest =
    if n == SPECIAL_FIFO then Ok (special.Fifo, rest)
    else if n == SPECIAL_SOCKET then Ok (special.Socket, rest)
    else Err (fault_at wrong.Variant rest)

abbrev pub special_at : List ℕ → Read Special
special_at bytes = byte_at bytes >>= λ n. special_of n.0 n.1

-- each of the eight bits stands for itself
abbrev pub open_flags_at : List ℕ → Read OpenFlags
open_flags_at bytes = one (λ bits. record { 0 = bits }) byte_at bytes

abbrev pub begin_flags_at : List ℕ → Read BeginFlags
begin_flags_at bytes = one (λ bits. record { 0 = bits }) byte_at bytes

unfoldable pub new_owner_at : List ℕ → Read NewOwner
new_owner_at bytes =
    two (λ user group. record { user = user; group = group }) optional_at optional_at bytes

-- ---- calls

-- of the rights of objects, and `mknod`
unfoldable pub rights_call_of : ℕ → List ℕ → Read Call
rights_call_of n rest =
    if n == CALL_MKNOD then two (λ path special. call.Mknod path special) text_at special_at rest
    else if n == CALL_CHMOD then
    two (λ path permissions. call.Chmod path permissions) text_at permissions_at rest
    else if n == CALL_CHOWN then two (λ path owner. call.Chown path owner) text_at new_owner_at rest
    else if n == CALL_FCHMOD then
    two (λ fd permissions. call.Fchmod fd permissions) (number_at w32) permissions_at rest
    else if n == CALL_FCHOWN then
    two (λ fd owner. call.Fchown fd owner) (number_at w32) new_owner_at rest
    else Err (fault_at wrong.Variant rest)

-- of two paths
unfoldable pub paths_call_of : ℕ → List ℕ → Read Call
paths_call_of n rest =
    if n == CALL_LINK then two (λ old new. call.Link old new) text_at text_at rest
    else if n == CALL_RENAME then two (λ old new. call.Rename old new) text_at text_at rest
    else if n == CALL_EXCHANGE then two (λ old new. call.Exchange old new) text_at text_at rest
    else if n == CALL_SYMLINK then
    two (λ target path. call.Symlink target path) text_at text_at rest
    else rights_call_of n rest

-- of one path
unfoldable pub path_call_of : ℕ → List ℕ → Read Call
path_call_of n rest =
    if n == CALL_STAT then one (λ path. call.Stat path) text_at rest
    else if n == CALL_UNLINK then one (λ path. call.Unlink path) text_at rest
    else if n == CALL_MKDIR then one (λ path. call.Mkdir path) text_at rest
    else if n == CALL_RMDIR then one (λ path. call.Rmdir path) text_at rest
    else if n == CALL_LIST then one (λ path. call.List path) text_at rest
    else if n == CALL_READLINK then one (λ path. call.Readlink path) text_at rest
    else if n == CALL_LSTAT then one (λ path. call.Lstat path) text_at rest
    else paths_call_of n rest

-- of the lengths of files, and of room in them
unfoldable pub length_call_of : ℕ → List ℕ → Read Call
length_call_of n rest =
    if n == CALL_FTRUNCATE then
    two (λ fd length. call.Ftruncate fd length) (number_at w32) (number_at w32) rest
    else if n == CALL_TRUNCATE then
    two (λ path length. call.Truncate path length) text_at (number_at w32) rest
    else if n == CALL_FALLOCATE then
    four (λ fd offset length space. call.Fallocate fd offset length space) (number_at w32) signed_at signed_at space_at rest
    else path_call_of n rest

-- of what files hold
unfoldable pub content_call_of : ℕ → List ℕ → Read Call
content_call_of n rest =
    if n == CALL_READ then two (λ fd count. call.Read fd count) (number_at w32) (number_at w32) rest
    else if n == CALL_PREAD then
    three (λ fd count offset. call.Pread fd count offset) (number_at w32) (number_at w32) signed_at rest
    else if n == CALL_WRITE then two (λ fd bytes. call.Write fd bytes) (number_at w32) text_at rest
    else if n == CALL_PWRITE then
    three (λ fd bytes offset. call.Pwrite fd bytes offset) (number_at w32) text_at signed_at rest
    else if n == CALL_LSEEK then
    three (λ fd offset whence. call.Lseek fd offset whence) (number_at w32) signed_at whence_at rest
    else length_call_of n rest

-- of descriptors and processes, and all others
unfoldable pub call_of : ℕ → List ℕ → Read Call
call_of n rest =
    if n == CALL_OPEN then two (λ path flags. call.Open path flags) text_at open_flags_at rest
    else if n == CALL_CLOSE then one (λ fd. call.Close fd) (number_at w32) rest
    else if n == CALL_FSTAT then one (λ fd. call.Fstat fd) (number_at w32) rest
    else if n == CALL_DUP then one (λ fd. call.Dup fd) (number_at w32) rest
    else if n == CALL_DUP2 then
    two (λ old new. call.Dup2 old new) (number_at w32) (number_at w32) rest
    else if n == CALL_PIPE then Ok (call.Pipe, rest)
    else if n == CALL_FORK then Ok (call.Fork, rest)
    else if n == CALL_EXIT then Ok (call.Exit, rest)
    else content_call_of n rest

abbrev pub call_at : List ℕ → Read Call
call_at bytes = byte_at bytes >>= λ n. call_of n.0 n.1

-- ---- operations

unfoldable pub op_of : ℕ → List ℕ → Read Op
op_of n rest =
    if n == OP_CALL then one (λ call. op.Call call) call_at rest
    else if n == OP_BEGIN then one (λ flags. op.Begin flags) begin_flags_at rest
    else if n == OP_END then Ok (op.End, rest)
    else if n == OP_ABORT then one (λ no_restart. op.Abort no_restart) flag_at rest
    else Err (fault_at wrong.Variant rest)

abbrev pub op_at : List ℕ → Read Op
op_at bytes = byte_at bytes >>= λ n. op_of n.0 n.1
