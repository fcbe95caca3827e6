-- How operations are printed: as a script says them.
use Rattle.std.specs.Prelude.{ℕ, List, ◌++◌, codes, decimal, if◌then◌else◌}
use Rattle.std.specs.Fmt.{signed_decimal}
use Rattle.ids.specs.declared.call.Whence.{Whence}
use Rattle.ids.specs.declared.call.Whence.TheVariants as whence
use Rattle.ids.specs.declared.call.Space.{Space}
use Rattle.ids.specs.declared.call.Space.TheVariants as space
use Rattle.ids.specs.declared.fixed.Special.{Special}
use Rattle.ids.specs.declared.fixed.Special.TheVariants as special
use Rattle.ids.specs.declared.call.Call.{Call}
use Rattle.ids.specs.declared.call.Call.TheVariants as call
use Rattle.ids.specs.declared.call.Op.{Op}
use Rattle.ids.specs.declared.call.Op.TheVariants as op
use Rattle.transcript.specs.Flags.{begin_flags_text, flags_text}
use Rattle.transcript.specs.Rights.{new_owner_text, octal}
use Rattle.transcript.specs.Text.{text_of}

abbrev pub whence_text : Whence → List ℕ
whence_text whence.Set = codes "SET"
whence_text whence.Cur = codes "CUR"
whence_text whence.End = codes "END"
whence_text whence.Data = codes "DATA"
whence_text whence.Hole = codes "HOLE"

abbrev pub space_text : Space → List ℕ
space_text space.Grow = codes "GROW"
space_text space.Keep = codes "KEEP"
space_text space.Punch = codes "PUNCH"

abbrev pub special_text : Special → List ℕ
special_text special.Fifo = codes "fifo"
special_text special.Socket = codes "socket"

-- an operation on a path, on two, or on a target and a path, on a descriptor, and on a descriptor and
-- a number
abbrev pub path_text : List ℕ → List ℕ → List ℕ
path_text word path = word ++ text_of path

abbrev pub paths_text : List ℕ → List ℕ → List ℕ → List ℕ
paths_text word first second = word ++ text_of first ++ codes " " ++ text_of second

abbrev pub number_text : List ℕ → ℕ → List ℕ
number_text word n = word ++ decimal n

abbrev pub numbers_text : List ℕ → ℕ → ℕ → List ℕ
numbers_text word first second = word ++ decimal first ++ codes " " ++ decimal second

abbrev pub bytes_text : List ℕ → ℕ → List ℕ → List ℕ
bytes_text word fd bytes = word ++ decimal fd ++ codes " " ++ text_of bytes

abbrev pub call_text : Call → List ℕ
call_text (call.Open path flags) = codes "open " ++ text_of path ++ codes " " ++ flags_text flags
call_text (call.Close fd) = number_text (codes "close ") fd
call_text (call.Read fd count) = numbers_text (codes "read ") fd count
call_text (call.Pread fd count offset) =
    numbers_text (codes "pread ") fd count ++ codes " " ++ signed_decimal offset
call_text (call.Write fd bytes) = bytes_text (codes "write ") fd bytes
call_text (call.Pwrite fd bytes offset) =
    bytes_text (codes "pwrite ") fd bytes ++ codes " " ++ signed_decimal offset
call_text (call.Lseek fd offset from) =
    codes "lseek " ++ decimal fd ++ codes " " ++ signed_decimal offset ++ codes " "
    ++ whence_text from
call_text (call.Ftruncate fd size) = numbers_text (codes "ftruncate ") fd size
call_text (call.Truncate path size) = codes "truncate " ++ text_of path ++ codes " " ++ decimal size
call_text (call.Fallocate fd offset length space) =
    codes "fallocate " ++ decimal fd ++ codes " " ++ signed_decimal offset ++ codes " "
    ++ signed_decimal length ++ codes " " ++ space_text space
call_text (call.Stat path) = path_text (codes "stat ") path
call_text (call.Fstat fd) = number_text (codes "fstat ") fd
call_text (call.Link old new) = paths_text (codes "link ") old new
call_text (call.Unlink path) = path_text (codes "unlink ") path
call_text (call.Rename old new) = paths_text (codes "rename ") old new
call_text (call.Exchange old new) = paths_text (codes "exchange ") old new
call_text (call.Mkdir path) = path_text (codes "mkdir ") path
call_text (call.Rmdir path) = path_text (codes "rmdir ") path
call_text (call.List path) = path_text (codes "list ") path
call_text (call.Symlink target path) = paths_text (codes "symlink ") target path
call_text (call.Readlink path) = path_text (codes "readlink ") path
call_text (call.Lstat path) = path_text (codes "lstat ") path
call_text (call.Mknod path special) =
    codes "mknod " ++ text_of path ++ codes " " ++ special_text special
call_text (call.Chmod path permissions) =
    codes "chmod " ++ text_of path ++ codes " " ++ octal permissions
call_text (call.Chown path owner) = codes "chown " ++ text_of path ++ new_owner_text owner
call_text (call.Fchmod fd permissions) =
    codes "fchmod " ++ decimal fd ++ codes " " ++ octal permissions
call_text (call.Fchown fd owner) = codes "fchown " ++ decimal fd ++ new_owner_text owner
call_text (call.Dup fd) = number_text (codes "dup ") fd
call_text (call.Dup2 old new) = numbers_text (codes "dup2 ") old new
call_text call.Pipe = codes "pipe"
call_text call.Fork = codes "fork"
call_text call.Exit = codes "exit"

abbrev pub op_text : Op → List ℕ
op_text (op.Call call) = call_text call
op_text (op.Begin flags) = codes "begin" ++ begin_flags_text flags
op_text op.End = codes "end"
op_text (op.Abort no_restart) = if no_restart then codes "abort no_restart" else codes "abort"
