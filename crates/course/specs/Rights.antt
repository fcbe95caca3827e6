-- Whose what is made is, and what is permitted there: by who makes it, and by its directory.
use Rattle.std.specs.Prelude.{ℕ, ◌+◌, ◌*◌, ◌/◌, ◌%◌, ◌==◌, ◌&&◌, not, Bool, Some, None}
use Rattle.std.specs.Prelude.{if◌then◌else◌}
use Rattle.ids.specs.Flags.{has}
use Rattle.ids.specs.Rights.{without_set_ids}
use Rattle.ids.specs.declared.rights.NewOwner.{NewOwner}
use Rattle.ids.specs.declared.rights.Owner.{Owner}
use Rattle.ids.specs.declared.rights.Rights.{Rights}

-- the permissions in a mode of Linux (sys/stat.h): its lower twelve bits
abbrev pub permissions_in : ℕ → ℕ
permissions_in mode = mode % 4096

-- whether set-user-ID is among permissions, or set-group-ID with the group's right to execute
abbrev pub has_set_ids : ℕ → Bool
has_set_ids bits = not (without_set_ids bits == bits)

-- both the user and the group are named, or neither is
abbrev pub both_of : Owner → NewOwner
both_of owner = record { user = Some owner.user; group = Some owner.group }

abbrev pub nobody : NewOwner
nobody = record { user = None; group = None }

-- ---- directories with set-group-ID (Linux, fs/inode.c, inode_init_owner)

-- whether a directory has that bit: 2000 in octal digits, which is 1024
abbrev pub gives_group : Rights → Bool
gives_group home = has home.permissions 1024

-- permissions with that bit, whether they had it or not
abbrev pub with_set_group : ℕ → ℕ
with_set_group bits = bits / 2048 * 2048 + 1024 + bits % 1024

-- What is made there has the group of the directory,
abbrev pub owner_in : Rights → Owner → Owner
owner_in home owner =
    if gives_group home then record { user = owner.user; group = home.owner.group } else owner

-- and a directory has the bit too.
abbrev pub permissions_below : Bool → Rights → ℕ → ℕ
permissions_below is_directory home bits =
    if is_directory && gives_group home then with_set_group bits else bits

-- what is made in a directory with the first ones gets, where its maker gives it the second ones
abbrev pub rights_in : Bool → Rights → Rights → Rights
rights_in is_directory home given = record {
  permissions = permissions_below is_directory home given.permissions;
  owner = owner_in home given.owner;
}
