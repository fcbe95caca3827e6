use Rattle.std.proofs.Common.{ℕ, List, take}
use Rattle.transcript.specs.Printer.{CanPrint, Prints}
use Rattle.stream.specs.Parts.{IsAt, Seen, Takes}
use Rattle.stream.proofs.state.Stream.take_part.Given as goal

-- the bytes so far are taken, and the text of their answers is printed
abbrev pub invariant-loop-byte : goal.invariant-loop-byte
invariant-loop-byte g l =
    CanPrint g.S.Sink.failures l.out
    × ((text : List ℕ)
    × Prints g.S.Sink.written g.S.Sink.failures l.fn.out l.out text
    × ((seen : Seen) → IsAt g.K.Machine.shown l.setting seen l.fn.self
    → Takes g.K.Machine.shown l.setting seen (take l.byte-index l.part) text l.self))
