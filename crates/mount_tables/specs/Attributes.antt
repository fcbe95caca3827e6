-- What is told of an object's attributes.
use Rattle.std.specs.Prelude.{◌≡◌, ℕ, ◌+◌, ◌-◌, ◌*◌, ◌^◌, min, Bool, if◌then◌else◌}
use Rattle.ids.specs.declared.reply.Kind.{Kind}
use Rattle.ids.specs.declared.reply.Kind.TheVariants.{File, Dir, Pipe, Link, Fifo, Socket}
use Rattle.ids.specs.declared.reply.Stat.{Stat}
use Rattle.fuse.specs.declared.reply.Attr.{Attr}
use Rattle.fuse.specs.declared.request.Time.{Time}
use Rattle.view_times.specs.declared.times.Times.{Times}

-- The number of a kind in a mode (sys/stat.h), whose lower 12 bits are permissions. A FIFO is a pipe
-- with a name.
abbrev pub kind_number : Kind → ℕ
kind_number File = 8
kind_number Dir = 4
kind_number Pipe = 1
kind_number Link = 10
kind_number Fifo = 1
kind_number Socket = 12

-- The attributes are those of an object that has these times. Its number is one more, since some programs
-- take 0 for none.
pub record IsLike (stat : Stat) (times : Times) (attr : Attr) : Type 0 where
  pub inode : attr.inode ≡ min (stat.num + 1) (2 ^ 64 - 1)
  pub size : attr.size ≡ stat.size
  pub links : attr.links ≡ stat.links
  pub mode : attr.mode ≡ kind_number stat.kind * 4096 + stat.rights.permissions
  pub user : attr.uid ≡ stat.rights.owner.user
  pub group : attr.gid ≡ stat.rights.owner.group
  pub accessed : attr.accessed ≡ times.accessed
  pub modified : attr.modified ≡ times.modified
  pub changed : attr.changed ≡ times.changed

-- The attributes are those of a node that is no object of the kernel: it is empty and root's, with the
-- permissions that such a directory or such a file has (755 and 644), and its times are now.
pub record IsOfNode (node : ℕ) (is_directory : Bool) (now : Time) (attr : Attr) : Type 0 where
  pub inode : attr.inode ≡ node
  pub size : attr.size ≡ 0
  pub links : attr.links ≡ 1
  pub mode : attr.mode ≡ (if is_directory then 4 * 4096 + 493 else 8 * 4096 + 420)
  pub user : attr.uid ≡ 0
  pub group : attr.gid ≡ 0
  pub accessed : attr.accessed ≡ now
  pub modified : attr.modified ≡ now
  pub changed : attr.changed ≡ now
