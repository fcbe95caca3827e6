use Rattle.mount_requests.specs.Seen.{seen}
use Rattle.mounted.proofs.Choosing.{by_process, without_process}
use Rattle.mount_requests.proofs.Keeping.{answered_keeps}
use Rattle.mounted.proofs.Staying.{keeps_sound, sound_then}
use Rattle.mounted.proofs.Stepping.{stands_since}
use Rattle.mounted.proofs.serving.Serving.in_plain.Goals as goal

pub returns-in_err-pid-clause-serves : goal.returns-in_err-pid-clause-serves
returns-in_err-pid-clause-serves g c =
    without_process (seen c.args.self.now.tables) (seen c.choose_plain.new.self.tables) c.args.caller c.args.operation _ c.from_residual.ensures.1 c.in_err-pid.ensures.lacking.0 c.in_err-pid.ensures.lacking.1

pub returns-clause-sound : goal.returns-clause-sound
returns-clause-sound g c =
    sound_then c.choose_plain.ensures.sound
    (keeps_sound (answered_keeps (seen c.choose_plain.new.self.tables) (seen c.answer-outcome.new.self) _ c.args.caller c.args.operation _ _ _ c.answer-outcome.ensures.answers)
    (stands_since c.answer-outcome.ensures.bound c.bind.ensures.since c.history-history.ensures.stand))

pub returns-clause-serves : goal.returns-clause-serves
returns-clause-serves g c =
    by_process (seen c.args.self.now.tables) (seen c.choose_plain.new.self.tables) (seen c.answer-outcome.new.self) c.args.caller _ _ c.args.operation c.answer-outcome.result c.bind.ensures.pid c.bind.ensures.shown c.in_ok-pid.ensures.ready c.answer-outcome.ensures.answers
