use Rattle.std.proofs.Common.{take}
use Rattle.transcript.specs.Printer.{CanPrint, Prints}
use Rattle.transcript.specs.Line.{lines_from}
use Rattle.transcript.proofs.line.put_lines.Given as goal

abbrev pub invariant-loop-index : goal.invariant-loop-index
invariant-loop-index g l = CanPrint g.S.Sink.failures l.out × Prints g.S.Sink.written g.S.Sink.failures l.fn.out l.out (lines_from l.first (take l.index l.entries))
