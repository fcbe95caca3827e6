use Rattle.std.proofs.Common.{ℕ, Contains, ◌↔◌, sym, ap, subst, ◌∙◌}
use Rattle.model.specs.State.{Kernel}
use Rattle.freeing_laws.specs.Sweep.{AllFit}
use Rattle.shadow.specs.Agrees.{blocks_written}
use Rattle.notes.specs.Log.{effects_in}
use Rattle.notes.specs.Patches.{net_at, numbers_in}
use Rattle.shadow.specs.declared.shadow.Shadow.TheInside.{Inside}
use Rattle.shadow.proofs.shadow.Shadow.changed.Goals as goal

pub returns-clause-blocks : goal.returns-clause-blocks
returns-clause-blocks c =
    subst (λ ds. (k : Kernel) (b : ℕ) → AllFit ds k → Contains c.changed.result.now b ↔ Contains (blocks_written c.args.num ds) b) c.self.view_is
    (λ k b fit. subst (λ ns. Contains ns b ↔ Contains (blocks_written c.args.num (effects_in c.self.inside.log)) b) (sym (c.changed.ensures.value ∙ ap (λ (i : Inside). numbers_in (net_at i.patches.inodes c.args.num).contents) c.self-inside.view_is)) (c.self.invariant.written k c.args.num b fit))
