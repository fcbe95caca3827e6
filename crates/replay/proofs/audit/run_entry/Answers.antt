use Rattle.std.proofs.Common.{sym, ap, ◌∙◌}
use Rattle.model.specs.Entries.{Do, answer_in}
use Rattle.replay.specs.Transactions.{call_in}
use Rattle.replay.proofs.Running.{not_executed, ran_nothing}
use Rattle.plain_kernel.proofs.Laws.{ok_then}
use Rattle.replay.proofs.Stopping.{ran_or_not}
use Rattle.replay.proofs.audit.run_entry.Goals as goal

pub returns-then-not-is_executed : goal.returns-then-not-is_executed
returns-then-not-is_executed c = ran_nothing c.args.kernel.now c.args.pid _
    (ap (λ op. call_in op c.args.entry.now.reply c.args.entry.now.chosen) c.in-Call.is
    ∙ not_executed c.in-Call.call (answer_in c.args.entry.now.reply) c.args.entry.now.chosen (sym c.is_executed.ensures ∙ c.if-not-is_executed.true)) c.requires

pub returns-else-not-is_executed : goal.returns-else-not-is_executed
returns-else-not-is_executed c = ok_then c.step.result c.step.ensures (λ right h.
    ran_or_not right c.args.kernel.now c.step.new.kernel c.args.pid _ _
    (ap (λ ns. call_in (Do c.in-Call.call) c.args.entry.now.reply ns) c.as_slice.ensures ∙ ap (λ op. call_in op c.args.entry.now.reply c.args.entry.now.chosen) (sym c.in-Call.is)) h)

pub returns-in-Begin : goal.returns-in-Begin
returns-in-Begin c = ran_nothing c.args.kernel.now c.args.pid _ (ap (λ op. call_in op c.args.entry.now.reply c.args.entry.now.chosen) c.in-Begin.is) c.requires

pub returns-in-End : goal.returns-in-End
returns-in-End c = ran_nothing c.args.kernel.now c.args.pid _ (ap (λ op. call_in op c.args.entry.now.reply c.args.entry.now.chosen) c.in-End.is) c.requires

pub returns-in-Abort : goal.returns-in-Abort
returns-in-Abort c = ran_nothing c.args.kernel.now c.args.pid _ (ap (λ op. call_in op c.args.entry.now.reply c.args.entry.now.chosen) c.in-Abort.is) c.requires
