use Rattle.std.proofs.Common.{◌∷◌, ◌+◌, drop, sym, ap, ◌∙◌}
use Rattle.std.proofs.lemmas.List.{drop_more, drop_all}
use Rattle.model.specs.Walks.{walk}
use Rattle.look.specs.Asked.{asked}
use Rattle.walk.proofs.Then.{asked-then, stops, same}
use Rattle.walk.specs.Walking.{next_of}
use Rattle.walk.proofs.Walks.{walk-next}
use Rattle.walk.proofs.walk_along.Goals as goal

pub loop-name-preserved : goal.loop-name-preserved
loop-name-preserved g c =
    let k = g.L.Look.state c.args.look.now in
    let t = c.loop-name.reads in
    let rest = drop (c.loop-name.name-index + 1) c.args.names.now in
    c.loop-name.invariant
    ∙ ap (λ xs. asked k (walk c.loop-name.place xs) t) (drop_more _ _ c.name-item.result c.loop-name-test.true ∙ ap (λ x. x ∷ rest) (sym c.name-item.is))
    ∙ ap (λ m. asked k m t) (walk-next c.loop-name.place c.name-item.result rest)
    ∙ asked-then k (next_of c.loop-name.place c.name-item.result) (λ next. walk next rest) t _ _ c.in_ok-place.ensures.is

pub returns-in_err-place : goal.returns-in_err-place
returns-in_err-place g c =
    let k = g.L.Look.state c.args.look.now in
    let t = c.loop-name.reads in
    let rest = drop (c.loop-name.name-index + 1) c.args.names.now in
    same (c.loop-name.invariant
    ∙ ap (λ xs. asked k (walk c.loop-name.place xs) t) (drop_more _ _ c.name-item.result c.loop-name-test.true ∙ ap (λ x. x ∷ rest) (sym c.name-item.is))
    ∙ ap (λ m. asked k m t) (walk-next c.loop-name.place c.name-item.result rest))
    (stops (λ next. walk next rest) c.from_residual.ensures.1 c.in_err-place.ensures)

pub returns : goal.returns
returns g c =
    let k = g.L.Look.state c.args.look.now in
    record { is = c.loop-name.invariant ∙ ap (λ xs. asked k (walk c.loop-name.place xs) c.loop-name.reads) (drop_all _ _ c.loop-name-test.false) }
