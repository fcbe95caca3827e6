use Rattle.mount_requests.specs.Seen.{seen}
use Rattle.mounted.proofs.Outcomes.{kept_by, sound_forgotten}
use Rattle.mounted.proofs.Staying.{sound_then}
use Rattle.mounted.proofs.serving.Serving.serve.Goals as goal

pub returns-clause-sound : goal.returns-clause-sound
returns-clause-sound g c = sound_then c.answer-reply.ensures.sound (sound_forgotten (seen c.answer-reply.new.self.tables) c.forget-forgotten.result c.forget-forgotten.ensures.yes c.forget-forgotten.ensures.no)

pub returns-clause-served : goal.returns-clause-served
returns-clause-served g c = record {
  mid = c.answer-reply.new.self.hand.shown;
  is = c.answer-reply.ensures.told;
  forgot = λ few. c.forget-forgotten.ensures.yes (c.forget-forgotten.ensures.exactly.1 few);
  kept = kept_by c.forget-forgotten.result c.forget-forgotten.ensures.exactly.0 c.forget-forgotten.ensures.no;
}
