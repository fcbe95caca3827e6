use Rattle.session.specs.Sessions.{GoesOn}
use Rattle.session.proofs.turns.run.Given as goal

-- the session went on up to here
abbrev pub invariant-loop : goal.invariant-loop
invariant-loop g l =
    GoesOn g.S.Service.serves l.fn.server l.server (g.C.Channel.heard l.fn.channel) (g.C.Channel.heard l.channel)
    (g.C.Channel.said l.fn.channel) (g.C.Channel.said l.channel)
