use Rattle.std.proofs.Common.{sym, ap, ◌∙◌}
use Rattle.model.specs.Moments.{is_alive}
use Rattle.machine.specs.Shown.{moment}
use Rattle.redo_records.proofs.Laws.{none_is_gone}
use Rattle.recording.specs.Noted.{needed_by}
use Rattle.recording.proofs.Places.{needed_gone, needed_is}
use Rattle.recording.proofs.asking.needed.Goals as goal

pub returns : goal.returns
returns g c =
    let v = g.M.Machine.shown c.args.machine.now in
    needed_gone (moment v.log) c.args.pid c.args.op.now (ap (λ k. is_alive k c.args.pid) (sym c.requires.kept.state) ∙ sym c.is_living.ensures ∙ c.if-is_living.false)

pub returns-then-is_living : goal.returns-then-is_living
returns-then-is_living g c =
    let v = g.M.Machine.shown c.args.machine.now in
    let m = moment v.log in
    c.needed_by.ensures ∙ ap (λ s. needed_by s c.args.op.now) (c.standing.ensures m c.requires.follows)
    ∙ needed_is m c.args.pid c.args.op.now (none_is_gone m c.args.recorder.now c.args.pid c.requires.follows) (ap (λ k. is_alive k c.args.pid) (sym c.requires.kept.state) ∙ sym c.is_living.ensures ∙ c.if-is_living.true)
