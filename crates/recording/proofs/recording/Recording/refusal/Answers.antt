use Rattle.std.proofs.Common.{◌≡◌, true, subst}
use Rattle.machine.specs.Shown.{Kept}
use Rattle.machine.specs.Steps.{is_no_entry, IsStep}
use Rattle.recording.specs.Recorded.{Recorded}
use Rattle.recording.proofs.Places.{refused_is, refused_step}
use Rattle.recording.proofs.recording.Recording.refusal.Goals as goal

pub returns-clause-step : goal.returns-clause-step
returns-clause-step g c =
    let v = g.M.Machine.shown c.self.inside.machine in
    subst (λ (r : Recorded). Kept r.shown × IsStep r.shown r.shown c.args.pid c.args.op.now c.refusal.result × (is_no_entry c.refusal.result ≡ true)) c.self.view_is
    (c.self.invariant.kept, refused_step v c.args.pid c.needed-places.result c.args.op.now c.refusal.result c.needed-places.ensures c.if-places-eq0.false c.refusal.ensures, refused_is v.log c.needed-places.result c.refusal.result c.refusal.ensures)
