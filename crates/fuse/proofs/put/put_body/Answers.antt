use Rattle.std.proofs.Common.{[], ◌∷◌, arith}
use Rattle.fuse.specs.declared.reply.Reply.TheVariants as reply
use Rattle.fuse.proofs.Lengths.{length-attr_reply_bytes, length-body_of, length-entry_bytes, length-init_bytes, length-opened_bytes, length-statfs_bytes, length-u32s, length-u64s}
use Rattle.fuse.proofs.put.put_body.Goals as goal

pub returns-in-Entry-clause-succeeds : goal.returns-in-Entry-clause-succeeds
returns-in-Entry-clause-succeeds c = λ room. c.put_entry.ensures.succeeds (omega (arith, rw c.in-Entry.is at room, length-entry_bytes c.in-Entry.entry))

pub returns-in-Attr-clause-succeeds : goal.returns-in-Attr-clause-succeeds
returns-in-Attr-clause-succeeds c = λ room. c.put_attr_reply.ensures.succeeds (omega (arith, rw c.in-Attr.is at room, length-attr_reply_bytes c.in-Attr.attr))

pub returns-in-Opened-clause-succeeds : goal.returns-in-Opened-clause-succeeds
returns-in-Opened-clause-succeeds c = λ room. c.put_opened.ensures.succeeds (omega (arith, rw c.in-Opened.is at room, length-opened_bytes c.in-Opened.opened))

pub returns-in-Created-clause-succeeds : goal.returns-in-Created-clause-succeeds
returns-in-Created-clause-succeeds c = λ room. c.put_created.ensures.succeeds (omega (arith, rw c.in-Created.is at room, length-body_of (reply.Created c.in-Created.entry c.in-Created.opened)))

pub returns-in-Written-clause-succeeds : goal.returns-in-Written-clause-succeeds
returns-in-Written-clause-succeeds c = λ room. c.put_u32s.ensures.succeeds (omega (arith, rw c.in-Written.is at room, length-u32s (c.in-Written.size ∷ 0 ∷ [])))

pub returns-in-StatFs-clause-succeeds : goal.returns-in-StatFs-clause-succeeds
returns-in-StatFs-clause-succeeds c = λ room. c.put_statfs.ensures.succeeds (omega (arith, rw c.in-StatFs.is at room, length-statfs_bytes c.in-StatFs.s))

pub returns-in-Init-clause-succeeds : goal.returns-in-Init-clause-succeeds
returns-in-Init-clause-succeeds c = λ room. c.put_init.ensures.succeeds (omega (arith, rw c.in-Init.is at room, length-init_bytes c.in-Init.init))

pub returns-in-Lseek-clause-succeeds : goal.returns-in-Lseek-clause-succeeds
returns-in-Lseek-clause-succeeds c = λ room. c.put_u64s.ensures.succeeds (omega (arith, rw c.in-Lseek.is at room, length-u64s (c.in-Lseek.offset ∷ [])))
