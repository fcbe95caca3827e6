use Rattle.std.proofs.Common.{◌<◌, ◌≤◌, List, ℕ, length, sym, ap, subst, ◌∙◌}
use Rattle.ids.specs.declared.limits.TheConstants.{TARGET_LIMIT}
use Rattle.model.specs.State.{Link_to}
use Rattle.walk.proofs.Laws.{goes, stops, via}
use Rattle.path_calls.specs.Parts.{made}
use Rattle.path_calls.proofs.Binds.{made_of, tested_then}
use Rattle.path_calls.proofs.fixed.symlink.Goals as goal

pub returns-in_err-must_be_target : goal.returns-in_err-must_be_target
returns-in_err-must_be_target g c pid = via (tested_then c.args.target.now _) (stops _ c.from_residual.ensures.1 (c.in_err-must_be_target.ensures.tells _ _))

pub unwrap-requires : goal.unwrap-requires
unwrap-requires g c = c.new.ensures.exactly.1 (subst (λ (t : List ℕ). (0 < length t) × (length t ≤ TARGET_LIMIT)) (sym c.in_ok-copy.ensures) c.in_ok-must_be_target.ensures.within)

pub returns : goal.returns
returns g c pid =
    let same = made_of c.new.result c.unwrap.result _ c.unwrap.ensures c.new.ensures.value ∙ c.in_ok-copy.ensures in
    via (tested_then c.args.target.now _) (goes _ (c.in_ok-must_be_target.ensures.tells _ _) (via (ap (λ t. made (g.L.Look.state c.args.look.now).bounds.path_bytes (g.L.Look.state c.args.look.now).root c.args.path.now (Link_to t)) (sym same)) c.made.ensures))
