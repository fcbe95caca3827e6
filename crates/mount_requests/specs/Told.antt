-- What replies show of what the kernel answered.
use Rattle.std.specs.Prelude.{◌≡◌, ℕ, List}
use Rattle.ids.specs.declared.reply.Stat.{Stat}
use Rattle.fuse.specs.declared.reply.Entry.{Entry}
use Rattle.fuse.specs.declared.reply.Reply.{Reply}
use Rattle.fuse.specs.declared.reply.Reply.TheVariants as reply
use Rattle.nodes.specs.Tables.{Table, number_for}
use Rattle.nodes.specs.declared.directory_entry.DirectoryEntry.{DirectoryEntry}
use Rattle.mount_tables.specs.Attributes.{IsLike}
use Rattle.view_times.specs.declared.times.Times.{Times}

abbrev pub named : ℕ → List ℕ → DirectoryEntry
named parent name = record { parent = parent; name = name }

-- what a name gave: its node, and the object's attributes, of which its times are these
pub record IsEntry (t : Table) (p : DirectoryEntry) (stat : Stat) (times : Times) (entry : Entry)
    : Type 0 where
  pub node : entry.node ≡ number_for t p stat.num
  pub like : IsLike stat times entry.attr

abbrev pub ShowsNothing : Reply → Type 0
ShowsNothing reply.Empty = Unit {0}
ShowsNothing _ = ⊥

abbrev pub ShowsEntry : Table → DirectoryEntry → Stat → Times → Reply → Type 0
ShowsEntry t p stat times (reply.Entry entry) = IsEntry t p stat times entry
ShowsEntry t p stat times _ = ⊥

abbrev pub ShowsAttributes : Stat → Times → Reply → Type 0
ShowsAttributes stat times (reply.Attr attr) = IsLike stat times attr
ShowsAttributes stat times _ = ⊥

abbrev pub ShowsBytes : List ℕ → Reply → Type 0
ShowsBytes bytes (reply.Data read) = read ≡ bytes
ShowsBytes bytes _ = ⊥

abbrev pub ShowsCount : ℕ → Reply → Type 0
ShowsCount count (reply.Written size) = size ≡ count
ShowsCount count _ = ⊥

-- an open file or directory, by this number
abbrev pub ShowsHandle : ℕ → Reply → Type 0
ShowsHandle handle (reply.Opened opened) = opened.handle ≡ handle
ShowsHandle handle _ = ⊥

abbrev pub ShowsCreated : Table → DirectoryEntry → Stat → Times → ℕ → Reply → Type 0
ShowsCreated t p stat times handle (reply.Created entry opened) =
    IsEntry t p stat times entry × (opened.handle ≡ handle)
ShowsCreated t p stat times handle _ = ⊥

-- an offset that was found
abbrev pub ShowsPlace : ℕ → Reply → Type 0
ShowsPlace place (reply.Lseek found) = found ≡ place
ShowsPlace place _ = ⊥
