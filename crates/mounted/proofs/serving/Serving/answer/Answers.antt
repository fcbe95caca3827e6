use Rattle.std.proofs.Common.{ap}
use Rattle.course.specs.Hands.{Held}
use Rattle.mount_requests.specs.Seen.{seen}
use Rattle.mounted.proofs.Outcomes.{answered_by, answered_other, forgets_sound, told_other}
use Rattle.mounted.proofs.serving.Serving.answer.Goals as goal

pub returns-in-BatchForget-clause-sound : goal.returns-in-BatchForget-clause-sound
returns-in-BatchForget-clause-sound g c = forgets_sound (seen c.args.self.now.tables) (seen c.forget_all.new.self.tables) c.in-BatchForget.forgets c.forget_all.ensures.seen (ap (λ (h : Held). h.shown) c.forget_all.ensures.hand)

pub returns-in_default : goal.returns-in_default
returns-in_default g c = record {
  stand = c.outcome.ensures.stand;
  grows = c.outcome.ensures.grows;
  sound = c.outcome.ensures.sound;
  answered = answered_other c.args.operation c.in_default.not-Forget c.in_default.not-BatchForget c.in_default.not-Interrupt;
  in_view = c.outcome.ensures.in_view;
  told = told_other (seen c.args.self.now.tables) (seen c.outcome.new.self.tables) c.args.caller c.args.operation _ _ c.outcome.result c.in_default.not-Forget c.in_default.not-BatchForget c.in_default.not-Interrupt (answered_by (seen c.args.self.now.tables) (seen c.outcome.new.self.tables) c.args.caller c.args.operation c.outcome.result c.outcome.ensures.served);
}
