use Rattle.std.proofs.Common.{Bool, Err, Result, ap, inl, inr, ◌∙◌}
use Rattle.runner.specs.Faults.{status_of}
use Rattle.stream.specs.declared.fault.StreamFault.{StreamFault}
use Rattle.runner.proofs.streaming.run_stream_job.Goals as goal

pub run_stream-requires-clause-can_make : goal.run_stream-requires-clause-can_make
run_stream-requires-clause-can_make g c = record { entries = c.requires.limited; files = c.requires.files }

pub returns-in-Ok : goal.returns-in-Ok
returns-in-Ok g c = inl (record { good = c.in-Ok.good; ended = c.in-Ok.ensures.ok; told = c.status_of_good.ensures })

pub returns-in-Err : goal.returns-in-Err
returns-in-Err g c = inr (record {
  fault = c.in-Err.stopped;
  stopped = c.in-Err.ensures.fault;
  read = λ e. c.in-Err.ensures.read (ap (λ (f : StreamFault). let r : Result Bool StreamFault = Err f in r) e);
  write = λ e. c.in-Err.ensures.write (ap (λ (f : StreamFault). let r : Result Bool StreamFault = Err f in r) e);
  reported = c.status.ensures ∙ ap status_of c.of_stream-fault.ensures;
})
