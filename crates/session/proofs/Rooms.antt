-- A short reply has no more bytes than there is room for.
use Rattle.std.proofs.Common.{◌≡◌, ◌≤◌, true, length, arith}
use Rattle.std.proofs.lemmas.Bool.{leb-true}
use Rattle.fuse.specs.declared.reply.Reply.{Reply}
use Rattle.fuse.specs.declared.reply.Reply.TheVariants as reply
use Rattle.fuse.specs.Replies.{body_of}
use Rattle.fuse.proofs.Lengths.{length-body_of}
use Rattle.session.specs.Sessions.{is_short}

pub short_fits : (r : Reply) → is_short r ≡ true → length (body_of r) ≤ 1048576
short_fits (reply.Error errno) short = omega arith
short_fits reply.Empty short = omega arith
short_fits (reply.Entry entry) short = omega (arith, length-body_of (reply.Entry entry))
short_fits (reply.Attr attr) short = omega (arith, length-body_of (reply.Attr attr))
short_fits (reply.Opened opened) short = omega (arith, length-body_of (reply.Opened opened))
short_fits (reply.Created entry opened) short = omega (arith, length-body_of (reply.Created entry opened))
short_fits (reply.Written size) short = omega (arith, length-body_of (reply.Written size))
short_fits (reply.Data bytes) short = leb-true (length bytes) 1048576 short
short_fits (reply.Directory listing) short = leb-true (length listing.bytes) 1048576 short
short_fits (reply.StatFs s) short = omega (arith, length-body_of (reply.StatFs s))
short_fits (reply.Init init) short = omega (arith, length-body_of (reply.Init init))
short_fits (reply.Lseek offset) short = omega (arith, length-body_of (reply.Lseek offset))
