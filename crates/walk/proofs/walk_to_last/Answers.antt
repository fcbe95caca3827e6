use Rattle.std.proofs.Common.{sym, ap, ◌∙◌}
use Rattle.model.specs.Walks.{last_of}
use Rattle.look.specs.Asked.{asked}
use Rattle.walk.specs.Walking.{look_last}
use Rattle.walk.proofs.Then.{goes, stops, same}
use Rattle.walk.proofs.Walks.{last_of-last}
use Rattle.walk.proofs.walk_to_last.Goals as goal

pub returns-in_err-place : goal.returns-in_err-place
returns-in_err-place g c =
    let k = g.L.Look.state c.args.look.now in
    same (ap (λ names. asked k (last_of k.root c.args.of_root names) c.args.reads.now) (sym c.components.ensures) ∙ ap (λ m. asked k m c.args.reads.now) (last_of-last k c.args.of_root _ _ c.in-len1-up.len_at_least c.last-item.is))
    (stops (look_last c.last-item.result) c.from_residual.ensures.1 c.in_err-place.ensures)

pub returns : goal.returns
returns g c =
    let k = g.L.Look.state c.args.look.now in
    same (ap (λ names. asked k (last_of k.root c.args.of_root names) c.args.reads.now) (sym c.components.ensures) ∙ ap (λ m. asked k m c.args.reads.now) (last_of-last k c.args.of_root _ _ c.in-len1-up.len_at_least c.last-item.is))
    (goes (look_last c.last-item.result) c.in_ok-place.ensures c.look_at_last.ensures)
