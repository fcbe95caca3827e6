use Rattle.stream.proofs.Texts.{good_answers}
use Rattle.stream.proofs.good_answers_are_transcripts.Goals as goal

pub returns : goal.returns
returns c = good_answers
