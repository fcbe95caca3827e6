use Rattle.std.proofs.Common.{ℕ, [], ◌∷◌, ◌++◌, sym, ap, ap₂, ◌∙◌, Some, nat_le, if◌then◌else◌}
use Rattle.model.specs.Plan.{refuse_if, EBADF}
use Rattle.model.specs.Plans.{changed, unchanged, pipe_in, slot_at}
use Rattle.model.specs.Calls.{Descriptor}
use Rattle.model.specs.Changes.{Share_slot}
use Rattle.look.specs.Shown.{own_in}
use Rattle.walk.proofs.Laws.{goes, stops, via}
use Rattle.calls.proofs.descriptors.dup2.Goals as goal

pub returns-in_err-it : goal.returns-in_err-it
returns-in_err-it g c before = stops _ c.from_residual.ensures.1 (c.in_err-it.ensures _)

pub returns-in_err-refuse_if : goal.returns-in_err-refuse_if
returns-in_err-refuse_if g c before = goes _ (c.in_ok-it.ensures _) (stops _ c.from_residual-in_err-refuse_if.ensures.1 (via (ap₂ (λ (m n : ℕ). refuse_if (nat_le m n) EBADF) (sym c.open_limit.ensures.value) (sym c.new.view_is)) (c.in_err-refuse_if.ensures _ _)))

pub returns-then-eq : goal.returns-then-eq
returns-then-eq g c before = goes _ (c.in_ok-it.ensures _) (goes _ (via (ap₂ (λ (m n : ℕ). refuse_if (nat_le m n) EBADF) (sym c.open_limit.ensures.value) (sym c.new.view_is)) (c.in_ok-refuse_if.ensures _ _)) (via (ap (λ b. if b then unchanged (Descriptor c.args.old) else changed (Descriptor c.args.new) (Share_slot c.args.pid c.args.new c.in_ok-it.it.description (pipe_in (Some c.in_ok-it.it) ++ pipe_in (slot_at (own_in (g.L.Look.state c.args.look.now) c.args.pid) c.args.new)) ∷ [])) (sym c.eq.ensures ∙ c.if-eq.true)) (c.unchanged.ensures _ _)))

pub returns-in_ok-pipes : goal.returns-in_ok-pipes
returns-in_ok-pipes g c before = goes _ (c.in_ok-it.ensures _) (goes _ (via (ap₂ (λ (m n : ℕ). refuse_if (nat_le m n) EBADF) (sym c.open_limit.ensures.value) (sym c.new.view_is)) (c.in_ok-refuse_if.ensures _ _)) (via (ap (λ b. if b then unchanged (Descriptor c.args.old) else changed (Descriptor c.args.new) (Share_slot c.args.pid c.args.new c.in_ok-it.it.description (pipe_in (Some c.in_ok-it.it) ++ pipe_in (slot_at (own_in (g.L.Look.state c.args.look.now) c.args.pid) c.args.new)) ∷ [])) (sym c.eq.ensures ∙ c.if-eq.false)) (via (λ i. changed (Descriptor c.args.new) (Share_slot c.args.pid c.args.new c.in_ok-it.it.description ((ap (λ s. pipe_in (Some c.in_ok-it.it) ++ pipe_in s) (sym c.slot-else-eq.ensures) ∙ sym c.in_ok-pipes.ensures) i) ∷ [])) (c.changed_by.ensures _ _))))
