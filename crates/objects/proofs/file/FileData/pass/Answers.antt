use Rattle.std.proofs.Common.{◌+◌, sym, ◌∙◌, arith}
use Rattle.model.proofs.Laws.{row_begins, row_done, row_more, row_stops}
use Rattle.objects.proofs.Rows.{ends_with, goes_on_with}
use Rattle.objects.proofs.file.FileData.pass.Goals as goal

pub loop-passed-init : goal.loop-passed-init
loop-passed-init c = row_begins c.args.holes c.args.self.now.bytes c.args.first c.args.count

pub loop-passed-preserved : goal.loop-passed-preserved
loop-passed-preserved c = row_more c.args.holes c.args.self.now.bytes c.args.first c.args.count c.loop-passed.passed c.loop-passed.invariant c.loop-passed-test.true (goes_on_with c.args.holes c.args.self.now.bytes (c.args.first + c.loop-passed.passed) (sym c.ends.ensures ∙ c.if-ends.false))

pub returns-then-ends-clause-value : goal.returns-then-ends-clause-value
returns-then-ends-clause-value c = sym (row_stops c.args.holes c.args.self.now.bytes c.args.first c.args.count c.loop-passed.passed c.loop-passed.invariant c.loop-passed-test.true (ends_with c.args.holes c.args.self.now.bytes (c.args.first + c.loop-passed.passed) (sym c.ends.ensures ∙ c.if-ends.true)))

pub returns-clause-value : goal.returns-clause-value
returns-clause-value c = let past = c.loop-passed-test.false in sym (row_done c.args.holes c.args.self.now.bytes c.args.first c.args.count c.loop-passed.passed c.loop-passed.invariant (omega (arith, past)) ∙ omega (arith, past))
