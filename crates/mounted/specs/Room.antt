-- Which requests need room, and what the whole tree is told to be like.
use Rattle.std.specs.Prelude.{◌+◌, ◌-◌, ◌/◌, ◌^◌, min, Bool, true, false}
use Rattle.fuse.specs.declared.errno.Errno.TheVariants as errno
use Rattle.fuse.specs.declared.reply.Reply.{Reply}
use Rattle.fuse.specs.declared.reply.Reply.TheVariants as reply
use Rattle.fuse.specs.declared.reply.StatFs.{StatFs}
use Rattle.fuse.specs.declared.request.Operation.{Operation}
use Rattle.fuse.specs.declared.request.Operation.TheVariants as asked
use Rattle.mounted.specs.declared.starting.Space.{Space}

-- The requests by which a tree grows: those for which POSIX has ENOSPC (POSIX.1-2017, mkdir, link,
-- symlink, mknod, open, write), and a copy, which is a write. A rename or an exchange is none of them,
-- since a full tree may have to be put in order, nor is a longer length, since zeros take no bytes.
abbrev pub needs_room : Operation → Bool
needs_room (asked.SymLink name target) = true
needs_room (asked.MkNod name mode) = true
needs_room (asked.MkDir name mode) = true
needs_room (asked.Link node name) = true
needs_room (asked.Create name flags mode how) = true
needs_room (asked.Write handle offset how flags bytes) = true
needs_room (asked.CopyFileRange handle offset to to_handle to_offset length flags) = true
needs_room _ = false

-- whether it is told that memory was refused
abbrev pub is_want : Reply → Bool
is_want (reply.Error errno.ENOMEM) = true
is_want _ = false

-- What is told of the whole tree (POSIX.1-2017, sys/statvfs.h): blocks of 4,096 bytes, of which those are
-- free that the limit leaves; and the objects that there are, and as many more as there is room for where
-- each takes 1,024 bytes.
abbrev pub status_of : Space → StatFs
status_of s = record {
  blocks = s.limit / 4096;
  free_blocks = (s.limit - s.held) / 4096;
  available_blocks = (s.limit - s.held) / 4096;
  nodes = min (s.objects + (s.limit - s.held) / 1024) (2 ^ 64 - 1);
  free_nodes = (s.limit - s.held) / 1024;
  block_size = 4096;
  name_length = 255;
}
