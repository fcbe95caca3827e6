use Rattle.std.proofs.Common.{◌≡◌, arith, length, sym, ap, subst, ◌∙◌, IfOk, OnOk}
use Rattle.history.specs.Log.{Log}
use Rattle.recording.specs.Recorded.{AreRest, Recorded, records_of}
use Rattle.recording.proofs.Keeping.{counted_low, if_ok_so, on_ok_both}
use Rattle.recording.proofs.recording.Recording.take.Goals as goal

pub take-requires : goal.take-requires
take-requires g c = λ alive.
    let v = g.M.Machine.shown c.self.inside.machine in
    let notes = c.self.inside.notes in
    omega (arith, counted_low v.log notes.taken notes.waiting.items (c.self.invariant.faithful alive).waiting, c.count-count.ensures.value, c.count-count.ensures.room, ap (λ (l : Log). length l.entries) c.history.ensures.value)

pub returns-clause-rest : goal.returns-clause-rest
returns-clause-rest g c =
    let v = g.M.Machine.shown c.self.inside.machine in
    subst (λ (r : Recorded). IfOk c.take.result (λ records. AreRest r.shown.log c.args.taken records.items)) c.self.view_is
    (if_ok_so c.take.result _ _ _ (λ records alive rest. rest v.log (c.self.invariant.faithful alive)) c.take.ensures.there c.take.ensures.rest)

pub returns-clause-taken : goal.returns-clause-taken
returns-clause-taken g c =
    let v = g.M.Machine.shown c.self.inside.machine in
    subst (λ (r : Recorded). OnOk c.take.result (c.take.new.self.taken ≡ length (records_of r.shown.log))) c.self.view_is
    (on_ok_both c.take.result _ _ _ (λ alive taken. taken v.log (c.self.invariant.faithful alive)) c.take.ensures.there c.take.ensures.taken)

pub invariant_of-self : goal.invariant_of-self
invariant_of-self g c =
    let v = g.M.Machine.shown c.self.inside.machine in
    record {
      kept = c.self.invariant.kept;
      faithful = λ alive. c.take.ensures.keep v.log (c.self.invariant.faithful (sym c.take.ensures.lost ∙ alive));
      few = c.self.invariant.few;
    }
