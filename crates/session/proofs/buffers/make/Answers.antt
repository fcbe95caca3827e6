use Rattle.std.proofs.Common.{arith}
use Rattle.session.proofs.Rooms.{short_fits}
use Rattle.session.proofs.buffers.make.Goals as goal

pub unwrap-requires : goal.unwrap-requires
unwrap-requires c = c.put_reply.ensures.succeeds (omega (arith, c.clear.ensures.len, c.clear.ensures.capacity, c.requires.room, short_fits c.args.reply.now c.requires.short))
