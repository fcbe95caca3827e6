use Rattle.session.proofs.Following.{goes_further, stays}
use Rattle.session.proofs.turns.run.Goals as goal

pub loop-init : goal.loop-init
loop-init g c = stays g.S.Service.serves c.args.server.now (g.C.Channel.heard c.args.channel.now) (g.C.Channel.said c.args.channel.now)

pub loop-preserved : goal.loop-preserved
loop-preserved g c =
    let said = g.C.Channel.said in
    let heard = g.C.Channel.heard in
    goes_further g.S.Service.serves c.args.server.now c.loop.server c.turn.new.server
    (heard c.args.channel.now) (heard c.loop.channel) (heard c.turn.new.channel)
    (said c.args.channel.now) (said c.loop.channel) (said c.turn.new.channel)
    c.loop.invariant c.turn.ensures

pub returns-in-Some : goal.returns-in-Some
returns-in-Some g c =
    let said = g.C.Channel.said in
    let heard = g.C.Channel.heard in
    goes_further g.S.Service.serves c.args.server.now c.loop.server c.turn.new.server
    (heard c.args.channel.now) (heard c.loop.channel) (heard c.turn.new.channel)
    (said c.args.channel.now) (said c.loop.channel) (said c.turn.new.channel)
    c.loop.invariant c.turn.ensures
