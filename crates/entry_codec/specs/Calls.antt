-- The bytes of operations and calls: the number of the variant, and its fields in their order. `IsCall`
-- and the like say that each number is in the range of its type, as it is of each value of a program.
use Rattle.std.specs.Prelude.{ℕ, ◌<◌, ◌^◌, List, [], ◌∷◌, ◌++◌, length, IfSome, FitsSigned}
use Rattle.std.specs.Int.{w64}
use Rattle.ids.specs.declared.call.Whence.{Whence}
use Rattle.ids.specs.declared.call.Whence.TheVariants as whence
use Rattle.ids.specs.declared.call.Space.{Space}
use Rattle.ids.specs.declared.call.Space.TheVariants as space
use Rattle.ids.specs.declared.fixed.Special.{Special}
use Rattle.ids.specs.declared.fixed.Special.TheVariants as special
use Rattle.ids.specs.declared.rights.NewOwner.{NewOwner}
use Rattle.ids.specs.declared.call.Call.{Call}
use Rattle.ids.specs.declared.call.Call.TheVariants as call
use Rattle.ids.specs.declared.call.Op.{Op}
use Rattle.ids.specs.declared.call.Op.TheVariants as op
use Rattle.entry_codec.specs.declared.numbers.TheConstants.{WHENCE_SET, WHENCE_CUR, WHENCE_END}
use Rattle.entry_codec.specs.declared.numbers.TheConstants.{WHENCE_DATA, WHENCE_HOLE, SPACE_GROW}
use Rattle.entry_codec.specs.declared.numbers.TheConstants.{SPACE_KEEP, SPACE_PUNCH, SPECIAL_FIFO}
use Rattle.entry_codec.specs.declared.numbers.TheConstants.{SPECIAL_SOCKET}
use Rattle.entry_codec.specs.declared.numbers.TheConstants.{CALL_OPEN, CALL_CLOSE, CALL_READ}
use Rattle.entry_codec.specs.declared.numbers.TheConstants.{CALL_PREAD, CALL_WRITE, CALL_PWRITE}
use Rattle.entry_codec.specs.declared.numbers.TheConstants.{CALL_LSEEK, CALL_FTRUNCATE}
use Rattle.entry_codec.specs.declared.numbers.TheConstants.{CALL_TRUNCATE, CALL_FALLOCATE}
use Rattle.entry_codec.specs.declared.numbers.TheConstants.{CALL_STAT, CALL_FSTAT, CALL_LINK}
use Rattle.entry_codec.specs.declared.numbers.TheConstants.{CALL_UNLINK, CALL_RENAME, CALL_EXCHANGE}
use Rattle.entry_codec.specs.declared.numbers.TheConstants.{CALL_MKDIR, CALL_RMDIR, CALL_LIST}
use Rattle.entry_codec.specs.declared.numbers.TheConstants.{CALL_SYMLINK, CALL_READLINK, CALL_LSTAT}
use Rattle.entry_codec.specs.declared.numbers.TheConstants.{CALL_MKNOD, CALL_CHMOD, CALL_CHOWN}
use Rattle.entry_codec.specs.declared.numbers.TheConstants.{CALL_FCHMOD, CALL_FCHOWN, CALL_DUP}
use Rattle.entry_codec.specs.declared.numbers.TheConstants.{CALL_DUP2, CALL_PIPE, CALL_FORK}
use Rattle.entry_codec.specs.declared.numbers.TheConstants.{CALL_EXIT}
use Rattle.entry_codec.specs.declared.numbers.TheConstants.{OP_CALL, OP_BEGIN, OP_END, OP_ABORT}
use Rattle.entry_codec.specs.Parts.{u16_bytes, u32_bytes, signed_bytes, text_bytes, IsText}
use Rattle.entry_codec.specs.Parts.{flag_bytes, optional_bytes}

abbrev pub whence_number : Whence → ℕ
whence_number whence.Set = WHENCE_SET
whence_number whence.Cur = WHENCE_CUR
whence_number whence.End = WHENCE_END
whence_number whence.Data = WHENCE_DATA
whence_number whence.Hole = WHENCE_HOLE

abbrev pub space_number : Space → ℕ
space_number space.Grow = SPACE_GROW
space_number space.Keep = SPACE_KEEP
space_number space.Punch = SPACE_PUNCH

abbrev pub special_number : Special → ℕ
special_number special.Fifo = SPECIAL_FIFO
special_number special.Socket = SPECIAL_SOCKET

-- the user and the group, each where it is set
abbrev pub new_owner_bytes : NewOwner → List ℕ
new_owner_bytes owner = optional_bytes owner.user ++ optional_bytes owner.group

abbrev pub IsNewOwner : NewOwner → Type 0
IsNewOwner owner = IfSome owner.user (λ n. n < 2 ^ 32) × IfSome owner.group (λ n. n < 2 ^ 32)

-- ---- calls

unfoldable pub call_bytes : Call → List ℕ
call_bytes (call.Open path flags) = CALL_OPEN ∷ text_bytes path ++ (flags.0 ∷ [])
call_bytes (call.Close fd) = CALL_CLOSE ∷ u32_bytes fd
call_bytes (call.Read fd count) = CALL_READ ∷ u32_bytes fd ++ u32_bytes count
call_bytes (call.Pread fd count offset) =
    CALL_PREAD ∷ u32_bytes fd ++ u32_bytes count ++ signed_bytes offset
call_bytes (call.Write fd bytes) = CALL_WRITE ∷ u32_bytes fd ++ text_bytes bytes
call_bytes (call.Pwrite fd bytes offset) =
    CALL_PWRITE ∷ u32_bytes fd ++ text_bytes bytes ++ signed_bytes offset
call_bytes (call.Lseek fd offset whence) =
    CALL_LSEEK ∷ u32_bytes fd ++ signed_bytes offset ++ (whence_number whence ∷ [])
call_bytes (call.Ftruncate fd length) = CALL_FTRUNCATE ∷ u32_bytes fd ++ u32_bytes length
call_bytes (call.Truncate path length) = CALL_TRUNCATE ∷ text_bytes path ++ u32_bytes length
call_bytes (call.Fallocate fd offset length space) =
    CALL_FALLOCATE ∷ u32_bytes fd ++ signed_bytes offset ++ signed_bytes length ++ (space_number space ∷ [])
call_bytes (call.Stat path) = CALL_STAT ∷ text_bytes path
call_bytes (call.Fstat fd) = CALL_FSTAT ∷ u32_bytes fd
call_bytes (call.Link old new) = CALL_LINK ∷ text_bytes old ++ text_bytes new
call_bytes (call.Unlink path) = CALL_UNLINK ∷ text_bytes path
call_bytes (call.Rename old new) = CALL_RENAME ∷ text_bytes old ++ text_bytes new
call_bytes (call.Exchange old new) = CALL_EXCHANGE ∷ text_bytes old ++ text_bytes new
call_bytes (call.Mkdir path) = CALL_MKDIR ∷ text_bytes path
call_bytes (call.Rmdir path) = CALL_RMDIR ∷ text_bytes path
call_bytes (call.List path) = CALL_LIST ∷ text_bytes path
call_bytes (call.Symlink target path) = CALL_SYMLINK ∷ text_bytes target ++ text_bytes path
call_bytes (call.Readlink path) = CALL_READLINK ∷ text_bytes path
call_bytes (call.Lstat path) = CALL_LSTAT ∷ text_bytes path
call_bytes (call.Mknod path special) = CALL_MKNOD ∷ text_bytes path ++ (special_number special ∷ [])
call_bytes (call.Chmod path permissions) = CALL_CHMOD ∷ text_bytes path ++ u16_bytes permissions
call_bytes (call.Chown path owner) = CALL_CHOWN ∷ text_bytes path ++ new_owner_bytes owner
call_bytes (call.Fchmod fd permissions) = CALL_FCHMOD ∷ u32_bytes fd ++ u16_bytes permissions
call_bytes (call.Fchown fd owner) = CALL_FCHOWN ∷ u32_bytes fd ++ new_owner_bytes owner
call_bytes (call.Dup fd) = CALL_DUP ∷ u32_bytes fd
call_bytes (call.Dup2 old new) = CALL_DUP2 ∷ u32_bytes old ++ u32_bytes new
call_bytes call.Pipe = CALL_PIPE ∷ []
call_bytes call.Fork = CALL_FORK ∷ []
call_bytes call.Exit = CALL_EXIT ∷ []

unfoldable pub IsCall : Call → Type 0
IsCall (call.Open path flags) = IsText path × (flags.0 < 256)
IsCall (call.Close fd) = fd < 2 ^ 32
IsCall (call.Read fd count) = (fd < 2 ^ 32) × (count < 2 ^ 32)
IsCall (call.Pread fd count offset) = (fd < 2 ^ 32) × (count < 2 ^ 32) × FitsSigned w64 offset
IsCall (call.Write fd bytes) = (fd < 2 ^ 32) × IsText bytes
IsCall (call.Pwrite fd bytes offset) = (fd < 2 ^ 32) × IsText bytes × FitsSigned w64 offset
IsCall (call.Lseek fd offset whence) = (fd < 2 ^ 32) × FitsSigned w64 offset
IsCall (call.Ftruncate fd length) = (fd < 2 ^ 32) × (length < 2 ^ 32)
IsCall (call.Truncate path length) = IsText path × (length < 2 ^ 32)
IsCall (call.Fallocate fd offset length space) =
    (fd < 2 ^ 32) × FitsSigned w64 offset × FitsSigned w64 length
IsCall (call.Stat path) = IsText path
IsCall (call.Fstat fd) = fd < 2 ^ 32
IsCall (call.Link old new) = IsText old × IsText new
IsCall (call.Unlink path) = IsText path
IsCall (call.Rename old new) = IsText old × IsText new
IsCall (call.Exchange old new) = IsText old × IsText new
IsCall (call.Mkdir path) = IsText path
IsCall (call.Rmdir path) = IsText path
IsCall (call.List path) = IsText path
IsCall (call.Symlink target path) = IsText target × IsText path
IsCall (call.Readlink path) = IsText path
IsCall (call.Lstat path) = IsText path
IsCall (call.Mknod path special) = IsText path
IsCall (call.Chmod path permissions) = IsText path × (permissions < 4096)
IsCall (call.Chown path owner) = IsText path × IsNewOwner owner
IsCall (call.Fchmod fd permissions) = (fd < 2 ^ 32) × (permissions < 4096)
IsCall (call.Fchown fd owner) = (fd < 2 ^ 32) × IsNewOwner owner
IsCall (call.Dup fd) = fd < 2 ^ 32
IsCall (call.Dup2 old new) = (old < 2 ^ 32) × (new < 2 ^ 32)
IsCall call.Pipe = Unit {0}
IsCall call.Fork = Unit {0}
IsCall call.Exit = Unit {0}

-- ---- operations

unfoldable pub op_bytes : Op → List ℕ
op_bytes (op.Call call) = OP_CALL ∷ call_bytes call
op_bytes (op.Begin flags) = OP_BEGIN ∷ (flags.0 ∷ [])
op_bytes op.End = OP_END ∷ []
op_bytes (op.Abort no_restart) = OP_ABORT ∷ flag_bytes no_restart

unfoldable pub IsOp : Op → Type 0
IsOp (op.Call call) = IsCall call
IsOp (op.Begin flags) = flags.0 < 256
IsOp op.End = Unit {0}
IsOp (op.Abort no_restart) = Unit {0}
