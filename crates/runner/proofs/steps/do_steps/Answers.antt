use Rattle.std.proofs.Common.{◌≡◌, Err, rules}
use Rattle.std.specs.Io.KnownBytes.{append_known}
use Rattle.device.specs.Device.{IsPart}
use Rattle.transcript.specs.Line.{transcript}
use Rattle.runner.specs.declared.fault.RunFault.TheVariants.{Write}
use Rattle.runner.proofs.Stepping.{refused-no_write, stops-before, stops-writing}
use Rattle.runner.proofs.steps.do_steps.Goals as goal

pub returns-in_err-print_whole-clause-fault : goal.returns-in_err-print_whole-clause-fault
returns-in_err-print_whole-clause-fault g c =
    let made = c.make_steps-made in
    let is : c.from_residual.result ≡ Err Write = search rules in
    let part : IsPart (g.S.Sink.written c.args.sink.now) (g.S.Sink.written c.print_whole.new.sink) (transcript (g.K.Machine.shown made.new.kernel).log.entries) = search rules in
    stops-writing _ made.result _ _ c.args.steps.items _ _ (g.K.Machine.shown made.new.kernel) is made.ensures.done made.ensures.refused part

pub returns-in-Err-clause-fault : goal.returns-in-Err-clause-fault
returns-in-Err-clause-fault g c =
    let made = c.make_steps-made in
    let written : g.S.Sink.written c.print_whole.new.sink ≡ append_known (g.S.Sink.written c.args.sink.now) (transcript (g.K.Machine.shown made.new.kernel).log.entries) = search rules in
    let is : made.result ≡ Err c.in-Err.refusal = search rules in
    stops-before c.of_refusal.result made.result c.in-Err.refusal _ _ c.args.steps.items _ _ (g.K.Machine.shown made.new.kernel) c.of_refusal.ensures is made.ensures.refused written

pub returns-in-Err-clause-write : goal.returns-in-Err-clause-write
returns-in-Err-clause-write g c =
    let other = refused-no_write c.of_refusal.result c.in-Err.refusal c.of_refusal.ensures in
    λ e. absurd (other (cc e))
