use Rattle.std.proofs.Common.{◌∙◌, inl, refl, rules, arith}
use Rattle.stream.proofs.Ending.{at_write, come_answered, come_longer, come_none, come_still, come_stopped, come_too_long, ended_err, ended_ok, no_read_of, only_write, some_read, taken_no_read}
use Rattle.stream.proofs.run.run_stream.Goals as goal

pub parts-init : goal.parts-init
parts-init g c = ((come_none g.K.Machine.shown _ _ _ _ c.new-stream.ensures, omega arith), refl, refl)

pub parts-preserved : goal.parts-preserved
parts-preserved g c = (
  come_longer g.K.Machine.shown _ _ _ _ _ _ _ _ _ _ c.parts._reads c.parts.invariant.0 (search rules) c.in-Ok-answer.ensures.ok
      (some_read c.in-Ok.count c.read.new.buffer c.in-Ok.ensures.bound.0 c.if-count-eq0.false),
  c.in-Ok.ensures.count ∙ c.parts.invariant.1,
  c.in-Ok-answer.ensures.no_failure (λ e. cc e) ∙ c.parts.invariant.2,
)

pub returns-in_default-clause-fault : goal.returns-in_default-clause-fault
returns-in_default-clause-fault g c =
    come_answered g.K.Machine.shown _ _ _ _ _ _ (come_still g.K.Machine.shown _ _ _ _ _ _ _ c.parts.invariant.0.0 (search rules))

pub returns-then-count-eq0-clause-ok : goal.returns-then-count-eq0-clause-ok
returns-then-count-eq0-clause-ok g c =
    ended_ok g.K.Machine.shown _ _ _ _ _ _ _ c.finish.result c.legal_histories_pass.ensures
    (come_still g.K.Machine.shown _ _ _ _ _ _ _ c.parts.invariant.0.0 (search rules)) (search rules) c.finish.ensures.good c.finish.ensures.written

pub returns-then-count-eq0-clause-fault : goal.returns-then-count-eq0-clause-fault
returns-then-count-eq0-clause-fault g c =
    ended_err g.K.Machine.shown _ _ _ _ _ _ _ c.finish.result
    (come_still g.K.Machine.shown _ _ _ _ _ _ _ c.parts.invariant.0.0 (search rules)) (search rules) c.finish.ensures.part c.finish.ensures.only

pub returns-then-count-eq0-clause-read : goal.returns-then-count-eq0-clause-read
returns-then-count-eq0-clause-read g c = λ e. absurd (no_read_of c.finish.result c.finish.ensures.only e)

pub returns-then-count-eq0-clause-write : goal.returns-then-count-eq0-clause-write
returns-then-count-eq0-clause-write g c = λ e.
    let grown = at_write c.finish.result c.finish.ensures.write e in
    omega (arith, c.parts.invariant.2)

pub returns-then-count-eq0-clause-no_write_failure : goal.returns-then-count-eq0-clause-no_write_failure
returns-then-count-eq0-clause-no_write_failure g c = λ other. only_write c.finish.result c.finish.ensures.only c.finish.ensures.no_failure other ∙ c.parts.invariant.2

pub returns-in-Err-clause-fault : goal.returns-in-Err-clause-fault
returns-in-Err-clause-fault g c =
    come_stopped g.K.Machine.shown _ _ _ _ _ _ _ _ _ _ c.in-Err.fault c.parts.invariant.0.0 (search rules) c.in-Err.ensures.fault

pub returns-in-Err-clause-read : goal.returns-in-Err-clause-read
returns-in-Err-clause-read g c = λ e.
    absurd (taken_no_read g.K.Machine.shown _ _ _ _ _ _ _ _ _ c.in-Err.fault c.parts.invariant.0.0 c.in-Err.ensures.fault (cc e))

pub returns-clause-fault : goal.returns-clause-fault
returns-clause-fault g c = inl (come_too_long g.K.Machine.shown _ _ _ _ _ _ c.parts._reads c.parts.invariant.0 c.parts-test.false)
