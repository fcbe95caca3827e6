use Rattle.std.proofs.Common.{◌+◌, arith, ◌∙◌, ap}
use Rattle.machine.specs.Shown.{moment}
use Rattle.recording.proofs.Places.{all_held, few_are_made, low_place, one_more}
use Rattle.recording.proofs.asking.held.Goals as goal

pub overflow_cast-above : goal.overflow_cast-above
overflow_cast-above g c = omega (arith, few_are_made (g.M.Machine.shown c.args.machine.now) c.requires.kept c.requires.few, c.made.ensures)

pub overflow_add-above : goal.overflow_add-above
overflow_add-above g c = omega (arith, few_are_made (g.M.Machine.shown c.args.machine.now) c.requires.kept c.requires.few, c.made.ensures)

pub loop-pid-preserved : goal.loop-pid-preserved
loop-pid-preserved g c =
    let m = moment (g.M.Machine.shown c.args.machine.now).log in
    record {
      count = ap (λ n. c.loop-pid.held + n) c.places_of-held.ensures ∙ one_more m c.loop-pid.pid c.loop-pid.held c.standing.result c.loop-pid.invariant.count (c.standing.ensures m c.requires.follows);
      low = omega (arith, c.loop-pid.invariant.low, low_place c.standing.result, c.places_of-held.ensures);
    }

pub returns : goal.returns
returns g c =
    let v = g.M.Machine.shown c.args.machine.now in
    c.loop-pid.invariant.count ∙ all_held v c.requires.kept c.loop-pid.pid (omega (arith, c.made.ensures, c.loop-pid-test.false, few_are_made v c.requires.kept c.requires.few))
