use Rattle.std.proofs.Common.{take}
use Rattle.std.specs.Prelude.{flat_map}
use Rattle.transcript.specs.Printer.{CanPrint, Prints}
use Rattle.transcript.specs.Reply.{name_text}
use Rattle.transcript.proofs.reply.put_each_name.Given as goal

abbrev pub invariant-loop-name : goal.invariant-loop-name
invariant-loop-name g l = CanPrint g.S.Sink.failures l.out × Prints g.S.Sink.written g.S.Sink.failures l.fn.out l.out (flat_map name_text (take l.name-index l.names))
