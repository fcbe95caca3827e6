use Rattle.device.specs.Device.{CanCount}
use Rattle.store_stream.proofs.serving.serve_lines.Given as goal

-- a failure of each device can be counted
abbrev pub invariant-loop-reads : goal.invariant-loop-reads
invariant-loop-reads g l = record {
  reads : CanCount (g.I.Source.failures l.source);
  writes : CanCount (g.O.Sink.failures l.sink);
}
