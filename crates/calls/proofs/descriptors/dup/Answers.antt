use Rattle.std.proofs.Common.{[], ◌∷◌, sym}
use Rattle.model.specs.Plans.{changed}
use Rattle.model.specs.Calls.{Descriptor}
use Rattle.model.specs.Changes.{Share_slot}
use Rattle.walk.proofs.Laws.{goes, stops, via}
use Rattle.calls.proofs.Frees.{dup_by}
use Rattle.calls.proofs.descriptors.dup.Goals as goal

pub returns-in_err-it : goal.returns-in_err-it
returns-in_err-it g c before = stops _ c.from_residual.ensures.1 (c.in_err-it.ensures _)

pub returns-in_err-free : goal.returns-in_err-free
returns-in_err-free g c before = goes _ (c.in_ok-it.ensures _) (via (dup_by (g.L.Look.state c.args.look.now) c.args.pid c.in_ok-it.it) (stops _ c.from_residual-in_err-free.ensures.1 (c.in_err-free.ensures.value _)))

pub returns : goal.returns
returns g c before = goes _ (c.in_ok-it.ensures _) (via (dup_by (g.L.Look.state c.args.look.now) c.args.pid c.in_ok-it.it) (goes _ (c.in_ok-free.ensures.value _) (via (λ i. changed (Descriptor c.in_ok-free.free) (Share_slot c.args.pid c.in_ok-free.free c.in_ok-it.it.description (sym c.in_ok-pipes.ensures i) ∷ [])) (c.changed_by.ensures _ _))))
