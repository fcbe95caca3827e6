use Rattle.std.proofs.Common.{◌∙◌, take}
use Rattle.session.proofs.Following.{handled}
use Rattle.session.proofs.turns.turn.Goals as goal

pub returns-in-Ok : goal.returns-in-Ok
returns-in-Ok g c =
    let said = g.C.Channel.said in
    let heard = g.C.Channel.heard in
    handled g.S.Service.serves c.args.server.now c.handle.new.server (take c.in-Ok.count c.receive.new.buffer)
    (heard c.args.channel.now) (heard c.handle.new.channel) (said c.args.channel.now) (said c.handle.new.channel)
    (c.handle.ensures.heard ∙ c.in-Ok.ensures.heard) (rw c.receive.ensures.said at c.handle.ensures.handled)
