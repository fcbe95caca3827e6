use Rattle.std.proofs.Common.{ap, sym}
use Rattle.std.proofs.lemmas.List.{take_all}
use Rattle.transcript.specs.Line.{lines_from}
use Rattle.transcript.proofs.Lines.{lines_from-more}
use Rattle.transcript.proofs.Printing.{CanPrint-after, Prints-none, Prints-as, Prints-then}
use Rattle.transcript.proofs.line.put_lines.Goals as goal

pub loop-index-init : goal.loop-index-init
loop-index-init g c = (c.requires.can, Prints-none _ _ _)

pub loop-index-preserved : goal.loop-index-preserved
loop-index-preserved g c =
    let printed = Prints-as (Prints-then _ _ c.loop-index.invariant.1 c.put_line.ensures)
    (sym (lines_from-more c.args.first c.loop-index.index c.args.entries.now _ c.loop-index-test.true c.index-entries-index.is)) in
    (CanPrint-after printed c.requires.can, printed)

pub put_line-requires : goal.put_line-requires
put_line-requires g c = c.loop-index.invariant.0

pub returns : goal.returns
returns g c = Prints-as c.loop-index.invariant.1 (ap (lines_from c.args.first) (take_all c.loop-index.index c.args.entries.now c.loop-index-test.false))
