use Rattle.std.proofs.Common.{◌≡◌, ◌≤◌, length}
use Rattle.stream.specs.Parts.{HasCome, input_of}
use Rattle.stream.proofs.run.run_stream.Given as goal

-- all whole lines that have come are answered, each read gave a byte or more, and no device has failed
abbrev pub invariant-parts : goal.invariant-parts
invariant-parts g l =
    ((come :
    HasCome g.K.Machine.shown l.setting l.stream
    (g.I.Source.remaining l.fn.source) (g.I.Source.remaining l.source)
    (g.O.Sink.written l.fn.sink) (g.O.Sink.written l.sink))
    × (l._reads ≤ length (input_of come.seen)))
    × (g.I.Source.failures l.source ≡ g.I.Source.failures l.fn.source)
    × (g.O.Sink.failures l.sink ≡ g.O.Sink.failures l.fn.sink)
