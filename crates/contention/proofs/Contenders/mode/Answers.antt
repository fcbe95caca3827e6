use Rattle.std.proofs.Common.{◌≡◌, List, ◌∙◌, subst}
use Rattle.contention.specs.Contenders.{Contender, mode_by_contenders}
use Rattle.contention.proofs.Modes.{mode_ranked, mode_of_moment}
use Rattle.contention.proofs.Contenders.mode.Goals as goal

exact : (c : goal.After-mode) → c.mode.result ≡ mode_by_contenders c.args.self.now c.args.dir
exact c = subst (λ (all : List Contender). c.mode.result ≡ mode_by_contenders all c.args.dir) c.self.view_is
    (c.mode.ensures ∙ mode_ranked c.self.inside.ranks c.self.inside.records c.args.dir c.self.invariant)

pub returns-clause-exact : goal.returns-clause-exact
returns-clause-exact c = exact c

pub returns-clause-mode : goal.returns-clause-mode
returns-clause-mode c = λ m kept. exact c ∙ mode_of_moment m c.args.self.now c.args.dir kept
