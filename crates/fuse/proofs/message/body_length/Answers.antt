use Rattle.std.proofs.Common.{[], ◌∷◌, sym}
use Rattle.fuse.specs.declared.reply.Reply.TheVariants as reply
use Rattle.fuse.proofs.Lengths.{length-attr_reply_bytes, length-body_of, length-entry_bytes, length-init_bytes, length-opened_bytes, length-statfs_bytes, length-u32s, length-u64s}
use Rattle.fuse.proofs.message.body_length.Goals as goal

pub returns-in-Entry : goal.returns-in-Entry
returns-in-Entry c = sym (rw c.in-Entry.is (length-entry_bytes c.in-Entry.field-0))

pub returns-in-Attr : goal.returns-in-Attr
returns-in-Attr c = sym (rw c.in-Attr.is (length-attr_reply_bytes c.in-Attr.field-0))

pub returns-in-Opened : goal.returns-in-Opened
returns-in-Opened c = sym (rw c.in-Opened.is (length-opened_bytes c.in-Opened.field-0))

pub returns-in-Created : goal.returns-in-Created
returns-in-Created c = sym (rw c.in-Created.is (length-body_of (reply.Created c.in-Created.entry c.in-Created.opened)))

pub returns-in-Written : goal.returns-in-Written
returns-in-Written c = sym (rw c.in-Written.is (length-u32s (c.in-Written.size ∷ 0 ∷ [])))

pub returns-in-StatFs : goal.returns-in-StatFs
returns-in-StatFs c = sym (rw c.in-StatFs.is (length-statfs_bytes c.in-StatFs.field-0))

pub returns-in-Init : goal.returns-in-Init
returns-in-Init c = sym (rw c.in-Init.is (length-init_bytes c.in-Init.field-0))

pub returns-in-Lseek : goal.returns-in-Lseek
returns-in-Lseek c = sym (rw c.in-Lseek.is (length-u64s (c.in-Lseek.offset ∷ [])))
