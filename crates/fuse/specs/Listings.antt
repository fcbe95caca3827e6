-- Lists of the entries of a directory, which may have so many bytes.
use Rattle.std.specs.Prelude.{ℕ, ◌+◌, ◌-◌, ◌%◌, nat_le, Bool}
use Rattle.std.specs.Prelude.{List, [], ◌∷◌, ◌++◌, length, replicate, if◌then◌else◌}
use Rattle.fuse.specs.declared.listing.DirectoryEntry.{DirectoryEntry}
use Rattle.fuse.specs.declared.listing.Kind.{Kind}
use Rattle.fuse.specs.declared.listing.Kind.TheVariants as kind
use Rattle.fuse.specs.Listed.{Listed}
use Rattle.fuse.specs.Numbers.{u32s, u64s}

-- the kinds as `readdir` numbers them
abbrev pub kind_number : Kind → ℕ
kind_number kind.Unknown = 0
kind_number kind.Pipe = 1
kind_number kind.Directory = 4
kind_number kind.File = 8

-- a name, and zeros up to a multiple of 8 bytes
unfoldable pub padded : List ℕ → List ℕ
padded name = name ++ replicate ((8 - length name % 8) % 8) 0

-- inode, offset, the length of the name, kind, and the name
unfoldable pub directory_entry_bytes : DirectoryEntry → List ℕ
directory_entry_bytes entry =
    u64s (entry.inode ∷ entry.offset ∷ [])
    ++ u32s (length entry.name.now ∷ kind_number entry.kind ∷ []) ++ padded entry.name.now

-- whether more bytes fit into a list
abbrev pub fits : Listed → List ℕ → Bool
fits listed bytes = nat_le (length listed.bytes + length bytes) listed.size

-- a list after these bytes came, which are left out where they do not fit
abbrev pub added : Listed → List ℕ → Listed
added listed bytes =
    if fits listed bytes then record { size = listed.size; bytes = listed.bytes ++ bytes }
    else listed
