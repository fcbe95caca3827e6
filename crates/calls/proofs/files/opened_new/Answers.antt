use Rattle.std.proofs.Common.{[], ◌∷◌, ◌++◌, not, sym, ap, ◌∙◌}
use Rattle.model.specs.Plan.{ENOENT, refuse_if}
use Rattle.model.specs.Plans.{changed}
use Rattle.model.specs.Calls.{Descriptor}
use Rattle.model.specs.Changes.{Made, Make_file, Open_inode}
use Rattle.walk.proofs.Laws.{goes, stops, via}
use Rattle.calls.proofs.files.opened_new.Goals as goal

pub returns-in_err-refuse_if : goal.returns-in_err-refuse_if
returns-in_err-refuse_if c k before = stops _ c.from_residual.ensures.1 (via (ap (λ b. refuse_if (not b) ENOENT) (sym c.creates.ensures)) (c.in_err-refuse_if.ensures _ _))

pub returns : goal.returns
returns c k before = goes _ (via (ap (λ b. refuse_if (not b) ENOENT) (sym c.creates.ensures)) (c.in_ok-refuse_if.ensures _ _)) (via (ap (changed (Descriptor c.args.fd)) ((λ i. (sym c.new.ensures i ++ Make_file (sym c.last.view_is i).parent (sym c.last.view_is i).name 0 ∷ []) ++ Open_inode 1 (Made 0) (sym c.mode.ensures i) c.args.pid c.args.fd ∷ []) ∙ ap (λ made. made ++ Open_inode 1 (Made 0) c.mode.result c.args.pid c.args.fd ∷ []) (sym c.in_ok-made.ensures) ∙ sym c.in_ok-edits.ensures)) (c.changed.ensures _ _))
