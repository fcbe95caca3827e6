use Rattle.std.proofs.Common.{sym}
use Rattle.std.proofs.Common.{[], ◌∷◌, ◌++◌, ap, ◌∙◌}
use Rattle.model.specs.Plans.{changed}
use Rattle.model.specs.Calls.{Descriptor}
use Rattle.model.specs.Changes.{There, Open_inode}
use Rattle.walk.proofs.Laws.{goes, stops, via}
use Rattle.calls.proofs.files.opened_old.Goals as goal

pub returns-in_err-must_be_new : goal.returns-in_err-must_be_new
returns-in_err-must_be_new g c at = stops _ c.from_residual.ensures.1 (c.in_err-must_be_new.ensures _ _)

pub returns-in_err-must_not_be_directory : goal.returns-in_err-must_not_be_directory
returns-in_err-must_not_be_directory g c at = goes _ (c.in_ok-must_be_new.ensures _ _) (stops _ c.from_residual-in_err-must_not_be_directory.ensures.1 (c.in_err-must_not_be_directory.ensures _ _))

pub returns-in_err-must_not_be_link : goal.returns-in_err-must_not_be_link
returns-in_err-must_not_be_link g c at = goes _ (c.in_ok-must_be_new.ensures _ _) (goes _ (c.in_ok-must_not_be_directory.ensures _ _) (stops _ c.from_residual-in_err-must_not_be_link.ensures.1 (c.in_err-must_not_be_link.ensures _ _)))

pub returns-in_err-must_not_be_special : goal.returns-in_err-must_not_be_special
returns-in_err-must_not_be_special g c at = goes _ (c.in_ok-must_be_new.ensures _ _) (goes _ (c.in_ok-must_not_be_directory.ensures _ _) (goes _ (c.in_ok-must_not_be_link.ensures _ _) (stops _ c.from_residual-in_err-must_not_be_special.ensures.1 (c.in_err-must_not_be_special.ensures _ _))))

pub returns-in_err-cut : goal.returns-in_err-cut
returns-in_err-cut g c at = goes _ (c.in_ok-must_be_new.ensures _ _) (goes _ (c.in_ok-must_not_be_directory.ensures _ _) (goes _ (c.in_ok-must_not_be_link.ensures _ _) (goes _ (c.in_ok-must_not_be_special.ensures _ _) (stops _ c.from_residual-in_err-cut.ensures.1 c.in_err-cut.ensures))))

pub returns : goal.returns
returns g c at = goes _ (c.in_ok-must_be_new.ensures _ _) (goes _ (c.in_ok-must_not_be_directory.ensures _ _) (goes _ (c.in_ok-must_not_be_link.ensures _ _) (goes _ (c.in_ok-must_not_be_special.ensures _ _) (goes _ c.in_ok-cut.ensures (via (ap (changed (Descriptor c.args.fd)) ((λ i. c.in_ok-cut.cut ++ Open_inode 0 (There c.args.place.0) (sym c.mode.ensures i) c.args.pid c.args.fd ∷ []) ∙ sym c.in_ok-edits.ensures)) (c.changed.ensures _ _))))))
