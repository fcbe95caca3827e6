-- The operation of each opcode that is served, with this body.
use Rattle.std.specs.Prelude.{ℕ, ◌==◌, ◌||◌, Bool, true, false, List, Option, Some, if◌then◌else◌}
use Rattle.fuse.specs.declared.request.Operation.{Operation}
use Rattle.fuse.specs.declared.request.Operation.TheVariants as op
use Rattle.fuse.specs.Bodies.{lookup_in, symlink_in, mknod_in, mkdir_in, unlink_in, rmdir_in}
use Rattle.fuse.specs.Bodies.{rename_in, rename2_in, link_in, create_in, open_in, read_in, write_in}
use Rattle.fuse.specs.Bodies.{release_in, fsync_in, flush_in, lseek_in, opendir_in, readdir_in}
use Rattle.fuse.specs.Bodies.{releasedir_in, getattr_in, setattr_in, readlink_in, access_in}
use Rattle.fuse.specs.Bodies.{statfs_in, init_in, destroy_in, interrupt_in, forget_in}
use Rattle.fuse.specs.Bodies.{batch_forget_in, copy_file_range_in, fallocate_in}

-- of the session; each further one is told by its opcode alone
unfoldable pub session_operation_in : ℕ → List ℕ → Option Operation
session_operation_in opcode body =
    if opcode == 2 then forget_in body
    else if opcode == 26 then init_in body
    else if opcode == 36 then interrupt_in body
    else if opcode == 38 then destroy_in body
    else if opcode == 42 then batch_forget_in body else Some (op.Other opcode)

-- of directories and nodes
unfoldable pub node_operation_in : ℕ → List ℕ → Option Operation
node_operation_in opcode body =
    if opcode == 3 then getattr_in body
    else if opcode == 4 then setattr_in body
    else if opcode == 5 then readlink_in body
    else if opcode == 17 then statfs_in body
    else if opcode == 27 then opendir_in body
    else if opcode == 28 then readdir_in body
    else if opcode == 29 then releasedir_in body
    else if opcode == 34 then access_in body else session_operation_in opcode body

-- of open files
unfoldable pub file_operation_in : ℕ → List ℕ → Option Operation
file_operation_in opcode body =
    if opcode == 14 then open_in body
    else if opcode == 15 then read_in body
    else if opcode == 16 then write_in body
    else if opcode == 18 then release_in body
    else if opcode == 20 then fsync_in body
    else if opcode == 25 then flush_in body
    else if opcode == 43 then fallocate_in body
    else if opcode == 46 then lseek_in body
    else if opcode == 47 then copy_file_range_in body else node_operation_in opcode body

-- of names, and of all others
unfoldable pub operation_in : ℕ → List ℕ → Option Operation
operation_in opcode body =
    if opcode == 1 then lookup_in body
    else if opcode == 6 then symlink_in body
    else if opcode == 8 then mknod_in body
    else if opcode == 9 then mkdir_in body
    else if opcode == 10 then unlink_in body
    else if opcode == 11 then rmdir_in body
    else if opcode == 12 then rename_in body
    else if opcode == 13 then link_in body
    else if opcode == 35 then create_in body
    else if opcode == 45 then rename2_in body else file_operation_in opcode body

-- Which requests are answered. Linux sends what it forgets, and that a request is to end early,
-- and waits for no reply (fs/fuse/dev.c: neither is put among the requests that wait for one).
abbrev pub is_answered : Operation → Bool
is_answered (op.Forget lookups) = false
is_answered (op.BatchForget forgets) = false
is_answered (op.Interrupt unique) = false
is_answered _ = true

-- the opcodes of those that are not
abbrev pub is_silent : ℕ → Bool
is_silent opcode = opcode == 2 || opcode == 36 || opcode == 42
