use Rattle.mount_requests.specs.Seen.{seen}
use Rattle.mounted.proofs.Answered.{answered_as}
use Rattle.mounted.proofs.serving.Serving.in_view.Goals as goal

pub returns-clause-served : goal.returns-clause-served
returns-clause-served g c = record {
  outcome = c.answer-outcome.result;
  served = record {
    served = seen c.answer-outcome.new.self;
    answers = answered_as (seen c.args.self.now.tables) (seen c.answer-outcome.new.self) c.args.caller c.args.operation c.answer-outcome.result c.bind.ensures.pid c.bind.ensures.shown c.note.ensures.hand c.answer-outcome.ensures.answers;
    noted_is = c.note.ensures.noted;
  };
  is = c.note.ensures.told;
}
