use Rattle.std.proofs.Common.{◌≤◌, ℕ, List, length, sym, subst, ◌∙◌, true≢false}
use Rattle.model.specs.Entries.{Op}
use Rattle.machine.specs.Shown.{moment}
use Rattle.machine.specs.Steps.{IsStep}
use Rattle.redo_records.proofs.Laws.{room_where_no_place_is_needed}
use Rattle.recording.proofs.Places.{refused_step}
use Rattle.recording.proofs.Steps.{asked, same_priorities}
use Rattle.recording.proofs.stepping.step.Goals as goal

pub returns-then-lost-clause-faithful : goal.returns-then-lost-clause-faithful
returns-then-lost-clause-faithful g c = λ alive. absurd (true≢false (sym c.if-lost.true ∙ alive))

pub returns-then-lost-clause-few : goal.returns-then-lost-clause-few
returns-then-lost-clause-few g c =
    let shown = g.M.Machine.shown in
    subst (λ (ps : List ℕ). length ps ≤ 4096) (sym (same_priorities (shown c.args.machine.now) (shown c.step.new.self) c.args.pid c.args.op c.step.result c.step.ensures.step)) c.requires.few

pub needed-places-requires-clause-follows : goal.needed-places-requires-clause-follows
needed-places-requires-clause-follows g c = (c.requires.faithful c.if-lost.false).follows

pub ask-requires : goal.ask-requires
ask-requires g c = λ none.
    let v = g.M.Machine.shown c.args.machine.now in
    room_where_no_place_is_needed (moment v.log) c.args.notes.now.recorder c.args.pid c.args.op (c.requires.faithful c.if-lost.false).follows (sym c.needed-places.ensures ∙ none)

pub take_step-requires-clause-keep : goal.take_step-requires-clause-keep
take_step-requires-clause-keep g c =
    let v = g.M.Machine.shown c.args.machine.now in
    asked v.log c.args.notes.now c.ask.new.self c.in-Ok.ensures.follows c.in-Ok.ensures.waiting c.in-Ok.ensures.taken (c.requires.faithful c.if-lost.false)

pub returns-in-Ok-clause-step : goal.returns-in-Ok-clause-step
returns-in-Ok-clause-step g c =
    let shown = g.M.Machine.shown in
    subst (λ (o : Op). IsStep (shown c.args.machine.now) (shown c.take_step.new.machine) c.args.pid o c.take_step.result) c.in-Ok.ensures.op c.take_step.ensures.step

pub returns-in-Ok-clause-few : goal.returns-in-Ok-clause-few
returns-in-Ok-clause-few g c =
    let shown = g.M.Machine.shown in
    subst (λ (ps : List ℕ). length ps ≤ 4096) (sym (same_priorities (shown c.args.machine.now) (shown c.take_step.new.machine) c.args.pid _ c.take_step.result c.take_step.ensures.step)) c.requires.few

pub refusal-requires-clause-follows : goal.refusal-requires-clause-follows
refusal-requires-clause-follows g c = c.in-Err.ensures.follows (moment (g.M.Machine.shown c.args.machine.now).log) (c.requires.faithful c.if-lost.false).follows

pub returns-in-Err-clause-step : goal.returns-in-Err-clause-step
returns-in-Err-clause-step g c = refused_step (g.M.Machine.shown c.args.machine.now) c.args.pid c.needed-places.result c.args.op c.refusal.result c.needed-places.ensures c.in-Err.ensures.err c.refusal.ensures

pub returns-in-Err-clause-faithful : goal.returns-in-Err-clause-faithful
returns-in-Err-clause-faithful g c = λ alive.
    let v = g.M.Machine.shown c.args.machine.now in
    asked v.log c.args.notes.now c.ask.new.self c.in-Err.ensures.follows c.in-Err.ensures.waiting c.in-Err.ensures.taken (c.requires.faithful c.if-lost.false)
