use Rattle.std.proofs.Common.{◌≡◌, ◌<◌, inr, refl, rules, subst}
use Rattle.machine.specs.Shown.{limit_of, setup_of}
use Rattle.runner.specs.Checks.{IsChecked, NotChecked}
use Rattle.runner.proofs.Ending.{on_ok, if_err}
use Rattle.runner.proofs.job.do_job.Goals as goal

pub returns-in-Ok-clause-done : goal.returns-in-Ok-clause-done
returns-in-Ok-clause-done g c =
    on_ok c.check_if-told.result (λ checked. record {
      kernel = g.K.Machine.shown c.in-Ok.kernel;
      mid = g.O.Sink.written c.run_script.new.out;
      ran = search rules;
      checked = subst (λ log. IsChecked c.args.job.now.check log (g.O.Sink.written c.run_script.new.out) (g.O.Sink.written c.check_if-told.new.sink)) c.history.ensures.value checked;
      success = refl;
    }) c.check_if-told.ensures.ok

pub returns-in-Ok-clause-fault : goal.returns-in-Ok-clause-fault
returns-in-Ok-clause-fault g c =
    let mid = g.O.Sink.written c.run_script.new.out in
    let new = g.O.Sink.written c.check_if-told.new.sink in
    let last = g.O.Sink.failures c.check_if-told.new.sink in
    let same : g.O.Sink.failures c.run_script.new.out ≡ g.O.Sink.failures c.args.out.now = search rules in
    if_err c.check_if-told.result (λ fault wanted not.
    let fails : NotChecked (g.K.Machine.shown c.in-Ok.kernel).log mid new (g.O.Sink.failures c.args.out.now < last) fault =
    subst (λ n. NotChecked (g.K.Machine.shown c.in-Ok.kernel).log mid new (n < last) fault) same (subst (λ log. NotChecked log mid new (g.O.Sink.failures c.run_script.new.out < last) fault) c.history.ensures.value not) in
    record {
      fault = fault;
      ended = inr (record {
        kernel = g.K.Machine.shown c.in-Ok.kernel;
        mid = mid;
        ran = search rules;
        wanted = wanted;
        fails = fails;
        passes = λ position e. c.legal_histories_have_no_fault.ensures 0 (setup_of (g.K.Machine.shown c.in-Ok.kernel).log) (limit_of (g.K.Machine.shown c.in-Ok.kernel).log) (g.K.Machine.shown c.in-Ok.kernel).log.entries c.history.ensures.kept.legal position (subst (NotChecked (g.K.Machine.shown c.in-Ok.kernel).log mid new (g.O.Sink.failures c.args.out.now < last)) e fails).0;
      });
      read = λ e. absurd (subst (NotChecked (g.K.Machine.shown c.in-Ok.kernel).log mid new (g.O.Sink.failures c.args.out.now < last)) e fails);
      write = λ e. (subst (NotChecked (g.K.Machine.shown c.in-Ok.kernel).log mid new (g.O.Sink.failures c.args.out.now < last)) e fails).2;
      reported = refl;
    }) c.check_if-told.ensures.wanted c.check_if-told.ensures.fault
