use Rattle.std.proofs.Common.{ap, refl, ◌∙◌}
use Rattle.fuse.specs.Faults.{answer_to}
use Rattle.session.specs.Messages.{with_messages}
use Rattle.session.specs.Sessions.{Refused, Served, refusals, replies}
use Rattle.session.proofs.serving.handle.Goals as goal

pub returns-in-Ok-clause-handled : goal.returns-in-Ok-clause-handled
returns-in-Ok-clause-handled g c = record {
  said = replies c.in-Ok.request.unique c.serve-reply.result;
  writes = c.send.ensures.said ∙ ap (λ known. with_messages known (replies c.in-Ok.request.unique c.serve-reply.result)) c.now-now.ensures.said;
  handles = Served c.in-Ok.request c.serve-reply.result c.in-Ok.ensures c.serve-reply.ensures.serves c.serve-reply.ensures.answered refl;
}

pub returns-in-Err-clause-handled : goal.returns-in-Err-clause-handled
returns-in-Err-clause-handled g c = record {
  said = refusals (answer_to c.in-Err.fault);
  writes = rw c.answer.ensures at c.refuse.ensures.said;
  handles = Refused c.in-Err.fault c.in-Err.ensures refl refl;
}
