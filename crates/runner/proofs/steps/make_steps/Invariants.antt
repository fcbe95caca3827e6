use Rattle.runner.specs.Steps.{HasDone, limits_of}
use Rattle.runner.proofs.steps.make_steps.Given as goal

-- the steps so far are done
abbrev pub invariant-loop-pid : goal.invariant-loop-pid
invariant-loop-pid g l = HasDone (g.K.Machine.shown l.fn.kernel).log.priorities (limits_of (g.K.Machine.shown l.fn.kernel).log) l.yielded (g.K.Machine.shown l.kernel)
