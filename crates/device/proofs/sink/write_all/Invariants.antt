use Rattle.std.proofs.Common.{◌≡◌, ◌++◌, List, length, ℕ}
use Rattle.std.specs.Io.KnownBytes.{append_known}
use Rattle.device.proofs.sink.write_all.Given as goal

-- What was taken and what is left make the text.
abbrev pub invariant-loop-rest : goal.invariant-loop-rest
invariant-loop-rest g l =
    (front : List ℕ)
    × (l.fn.text ≡ front ++ l.rest)
    × (g.S.Sink.written l.sink ≡ append_known (g.S.Sink.written l.fn.sink) front)
    × (g.S.Sink.failures l.sink ≡ g.S.Sink.failures l.fn.sink)

abbrev pub decreases-loop-rest : goal.decreases-loop-rest
decreases-loop-rest g l = length l.rest
