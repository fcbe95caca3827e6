use Rattle.std.proofs.Common.{ℕ, subst, sym}
use Rattle.history.specs.Log.{Log}
use Rattle.machine.specs.Steps.{IsStep}
use Rattle.turnstile.specs.Histories.{shown}
use Rattle.turnstile.specs.Rule.{Follows}
use Rattle.turnstile.proofs.Calls.{step_shown, step_follows}
use Rattle.turnstile.proofs.turnstile.Turnstile.step.Goals as goal

pub give-requires-clause-kernel : goal.give-requires-clause-kernel
give-requires-clause-kernel g c = let e = c.step-reply.ensures in let r = c.requires.kernel in (
  record { legal = e.kept.legal },
  subst (λ (x : Log × ℕ). Follows x.1 x.0 (g.K.Machine.shown c.step-reply.new.self).log) (λ i. (sym r.0 i, sym r.1 i)) (step_follows (g.K.Machine.shown c.args.kernel).log (g.K.Machine.shown c.step-reply.new.self).log c.args.pid c.args.op c.step-reply.result c.requires.legal record { legal = e.kept.legal } (step_shown (g.K.Machine.shown c.args.kernel) (g.K.Machine.shown c.step-reply.new.self) c.args.pid c.args.op c.step-reply.result e.step)),
)

pub returns : goal.returns
returns g c = let e = c.step-reply.ensures in let r = c.requires.kernel in record {
  log = (g.K.Machine.shown c.step-reply.new.self).log;
  same = c.give.ensures.0;
  me = c.give.ensures.1;
  legal = record { legal = e.kept.legal };
  step = subst (λ (x : Log × ℕ). IsStep (shown x.0) (shown (g.K.Machine.shown c.step-reply.new.self).log) x.1 c.args.op c.step-reply.result) (λ i. (sym r.0 i, sym r.1 i)) (step_shown (g.K.Machine.shown c.args.kernel) (g.K.Machine.shown c.step-reply.new.self) c.args.pid c.args.op c.step-reply.result e.step);
}
