use Rattle.std.proofs.Common.{sym, ap, subst, ◌∙◌}
use Rattle.model.specs.Calls.{Child, Fork}
use Rattle.model.specs.Entries.{Answers, Do}
use Rattle.turnstile.specs.Histories.{IsLegal, own}
use Rattle.turnstile.specs.Rule.{having_seen}
use Rattle.turnstile.specs.Holding.{child_of, taker_of}
use Rattle.turnstile.specs.declared.rule.PassState.{PassState}
use Rattle.turnstile.proofs.Calls.{called_pass, step_shown}
use Rattle.turnstile.proofs.Forking.{follows_taken, fork_step, stepped, child_pid, newer, child_own, is_pass, pass_is, child_made}
use Rattle.turnstile.proofs.turnstile.Turnstile.fork.Goals as goal

pub bear-seat-requires-clause-kernel : goal.bear-seat-requires-clause-kernel
bear-seat-requires-clause-kernel g c = let p = c.pass.inside.seat in let q = c.wait_and_take-kernel.new.seat in let k = g.K.Machine.shown c.wait_and_take-kernel.result in let k' = g.K.Machine.shown c.step-reply.new.self in
    let taken = c.wait_and_take-kernel.ensures in let n = c.in-Some.pid in let legal : IsLegal k'.log = record { legal = c.step-reply.ensures.kept.legal } in
    let step = fork_step k k' c.pass.inside.pid n c.step-reply.result c.step-reply.ensures.step (sym c.child_in.ensures ∙ c.in-Some.is) in (
      legal,
      follows_taken p q q k.log k'.log c.pass.inside.pid (Do Fork) (Answers (Child n)) taken c.pass.invariant.1 legal step,
      newer p q k.log k'.log c.pass.inside.pid n (Do Fork) taken c.pass.invariant.1 legal step,
    )

pub invariant_of-result : goal.invariant_of-result
invariant_of-result g c = let p = c.pass.inside.seat in let q = c.wait_and_take-kernel.new.seat in let k = g.K.Machine.shown c.wait_and_take-kernel.result in let k' = g.K.Machine.shown c.step-reply.new.self in
    let taken = c.wait_and_take-kernel.ensures in let n = c.in-Some.pid in let legal : IsLegal k'.log = record { legal = c.step-reply.ensures.kept.legal } in
    let step = fork_step k k' c.pass.inside.pid n c.step-reply.result c.step-reply.ensures.step (sym c.child_in.ensures ∙ c.in-Some.is) in
    let o : PassState = child_of (taker_of q.me.0) k'.log in let is = c.bear-seat.ensures.child.1 in let same = pass_is c.bear-seat.result.me o is in (
      is_pass c.bear-seat.result.me o is,
      child_pid p q k.log k'.log c.pass.inside.pid n (Do Fork) taken c.pass.invariant.1 legal step ∙ sym (ap (λ (o : PassState). o.pid) same),
      subst (λ (o : PassState). IsLegal o.seen) (sym same) legal,
    )

pub give-requires-clause-kernel : goal.give-requires-clause-kernel
give-requires-clause-kernel g c = let p = c.pass.inside.seat in let q = c.wait_and_take-kernel.new.seat in let k = g.K.Machine.shown c.wait_and_take-kernel.result in let k' = g.K.Machine.shown c.step-reply.new.self in
    let legal : IsLegal k'.log = record { legal = c.step-reply.ensures.kept.legal } in
    (legal, follows_taken p q q k.log k'.log c.pass.inside.pid (Do Fork) c.step-reply.result c.wait_and_take-kernel.ensures c.pass.invariant.1 legal (step_shown k k' c.pass.inside.pid (Do Fork) c.step-reply.result c.step-reply.ensures.step))

pub returns-in-Some-clause-same : goal.returns-in-Some-clause-same
returns-in-Some-clause-same g c = let p = c.pass.inside.seat in let q = c.wait_and_take-kernel.new.seat in let k = g.K.Machine.shown c.wait_and_take-kernel.result in let k' = g.K.Machine.shown c.step-reply.new.self in
    let taken = c.wait_and_take-kernel.ensures in let n = c.in-Some.pid in let legal : IsLegal k'.log = record { legal = c.step-reply.ensures.kept.legal } in
    let step = fork_step k k' c.pass.inside.pid n c.step-reply.result c.step-reply.ensures.step (sym c.child_in.ensures ∙ c.in-Some.is) in
    let r = c.bear-seat.new.seat in let b = c.bear-seat.ensures.seat in
    rw (← c.pass.view_is) (called_pass p q r k.log (Do Fork) (Answers (Child n)) taken (stepped p q r k.log k'.log c.pass.inside.pid (Do Fork) (Answers (Child n)) taken c.pass.invariant.1 legal step b.0 b.1)).0

pub returns-in-Some-clause-ok : goal.returns-in-Some-clause-ok
returns-in-Some-clause-ok g c = let p = c.pass.inside.seat in let q = c.wait_and_take-kernel.new.seat in let k = g.K.Machine.shown c.wait_and_take-kernel.result in let k' = g.K.Machine.shown c.step-reply.new.self in
    let taken = c.wait_and_take-kernel.ensures in let n = c.in-Some.pid in let legal : IsLegal k'.log = record { legal = c.step-reply.ensures.kept.legal } in
    let step = fork_step k k' c.pass.inside.pid n c.step-reply.result c.step-reply.ensures.step (sym c.child_in.ensures ∙ c.in-Some.is) in
    let r = c.bear-seat.new.seat in let b = c.bear-seat.ensures.seat in let x = c.bear-seat.ensures.child in let t : PassState = taker_of q.me.0 in let seen = pass_is r.me (having_seen t k'.log) b.1 in
    rw (← c.pass.view_is) record {
      called = (called_pass p q r k.log (Do Fork) (Answers (Child n)) taken (stepped p q r k.log k'.log c.pass.inside.pid (Do Fork) (Answers (Child n)) taken c.pass.invariant.1 legal step b.0 b.1)).1;
      pass = child_made _ _ t _ _ k'.log n (x.0 ∙ sym b.0.0) (child_pid p q k.log k'.log c.pass.inside.pid n (Do Fork) taken c.pass.invariant.1 legal step) seen (pass_is c.bear-seat.result.me (child_of t k'.log) x.1);
      own_before = ap (λ (o : PassState). own n o.seen) seen ∙ child_own p q k.log k'.log c.pass.inside.pid n (Do Fork) taken c.pass.invariant.1 legal step;
    }

pub returns-in-None-clause-same : goal.returns-in-None-clause-same
returns-in-None-clause-same g c = let p = c.pass.inside.seat in let q = c.wait_and_take-kernel.new.seat in let k = g.K.Machine.shown c.wait_and_take-kernel.result in let k' = g.K.Machine.shown c.step-reply.new.self in
    let taken = c.wait_and_take-kernel.ensures in let legal : IsLegal k'.log = record { legal = c.step-reply.ensures.kept.legal } in let r = c.give.new.seat in
    let step = step_shown k k' c.pass.inside.pid (Do Fork) c.step-reply.result c.step-reply.ensures.step in
    rw (← c.pass.view_is) (called_pass p q r k.log (Do Fork) c.step-reply.result taken (stepped p q r k.log k'.log c.pass.inside.pid (Do Fork) c.step-reply.result taken c.pass.invariant.1 legal step c.give.ensures.0 c.give.ensures.1)).0

pub returns-in-None-clause-err : goal.returns-in-None-clause-err
returns-in-None-clause-err g c = let p = c.pass.inside.seat in let q = c.wait_and_take-kernel.new.seat in let k = g.K.Machine.shown c.wait_and_take-kernel.result in let k' = g.K.Machine.shown c.step-reply.new.self in
    let taken = c.wait_and_take-kernel.ensures in let legal : IsLegal k'.log = record { legal = c.step-reply.ensures.kept.legal } in let r = c.give.new.seat in
    let step = step_shown k k' c.pass.inside.pid (Do Fork) c.step-reply.result c.step-reply.ensures.step in
    rw (← c.pass.view_is) (called_pass p q r k.log (Do Fork) c.step-reply.result taken (stepped p q r k.log k'.log c.pass.inside.pid (Do Fork) c.step-reply.result taken c.pass.invariant.1 legal step c.give.ensures.0 c.give.ensures.1)).1
