use Rattle.std.proofs.Common.{ap}
use Rattle.history.specs.Log.{Log}
use Rattle.recording.proofs.Keeping.{recorded_at_start}
use Rattle.recording.proofs.recording.Recording.with_limits.Goals as goal

pub invariant_of-result : goal.invariant_of-result
invariant_of-result g c = recorded_at_start (g.M.Machine.shown c.in_ok-machine.machine) c.new-notes.result c.args.priorities.now c.in_ok-machine.ensures.kept (ap (λ (l : Log). l.entries) c.in_ok-machine.ensures.log) (ap (λ (l : Log). l.priorities) c.in_ok-machine.ensures.log) c.requires.not_too_many c.new-notes.ensures.keep
