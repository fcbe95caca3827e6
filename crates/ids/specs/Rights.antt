-- Permissions and owners (POSIX.1-2017, sys/stat.h: the file mode bits; chmod, chown). Permissions
-- are a number of twelve bits.
use Rattle.std.specs.Prelude.{ℕ, Option, Some, None, if◌then◌else◌}
use Rattle.std.specs.Int.RustNames.{bit_and}
use Rattle.ids.specs.Flags.{has}
use Rattle.ids.specs.declared.reply.Kind.{Kind}
use Rattle.ids.specs.declared.reply.Kind.TheVariants.{Dir, Link}
use Rattle.ids.specs.declared.rights.NewOwner.{NewOwner}
use Rattle.ids.specs.declared.rights.Rights.{Rights}

-- of a new object: in octal digits 755 for a directory, 777 for a symbolic link, 644 for all else
abbrev pub first_permissions : Option Kind → ℕ
first_permissions (Some Dir) = 493
first_permissions (Some Link) = 511
first_permissions _ = 420

abbrev pub first_rights : Option Kind → Rights
first_rights kind =
    record { permissions = first_permissions kind; owner = record { user = 0; group = 0 } }

abbrev pub permitted : ℕ → Rights → Rights
permitted permissions rights = record rights { permissions = permissions }

-- without set-user-ID (4000 in octal digits), and without set-group-ID (2000) where the group may
-- execute it (10): in octal digits the others are 1777 and 3777 (Linux, chown)
abbrev pub without_set_ids : ℕ → ℕ
without_set_ids bits = if has bits 8 then bit_and bits 1023 else bit_and bits 2047

-- what is left of permissions when the owner is set: of a directory all
abbrev pub left_by_chown : Option Kind → ℕ → ℕ
left_by_chown (Some Dir) bits = bits
left_by_chown _ bits = without_set_ids bits

abbrev pub or_as_it_is : Option ℕ → ℕ → ℕ
or_as_it_is (Some n) old = n
or_as_it_is None old = old

abbrev pub owned : Option Kind → NewOwner → Rights → Rights
owned kind new rights = record {
  permissions = left_by_chown kind rights.permissions;
  owner = record {
    user = or_as_it_is new.user rights.owner.user;
    group = or_as_it_is new.group rights.owner.group;
  };
}
