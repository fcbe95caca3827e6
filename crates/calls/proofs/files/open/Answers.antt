use Rattle.walk.proofs.Laws.{goes, stops}
use Rattle.calls.proofs.files.open.Goals as goal

pub returns-in_err-must_read_or_write : goal.returns-in_err-must_read_or_write
returns-in_err-must_read_or_write g c = stops _ c.from_residual.ensures.1 (c.in_err-must_read_or_write.ensures _ _)

pub returns-in_err-must_create_to_exclude : goal.returns-in_err-must_create_to_exclude
returns-in_err-must_create_to_exclude g c = goes _ (c.in_ok-must_read_or_write.ensures _ _) (stops _ c.from_residual-in_err-must_create_to_exclude.ensures.1 (c.in_err-must_create_to_exclude.ensures _ _))

pub returns-in_err-must_write_to_truncate : goal.returns-in_err-must_write_to_truncate
returns-in_err-must_write_to_truncate g c = goes _ (c.in_ok-must_read_or_write.ensures _ _) (goes _ (c.in_ok-must_create_to_exclude.ensures _ _) (stops _ c.from_residual-in_err-must_write_to_truncate.ensures.1 (c.in_err-must_write_to_truncate.ensures _ _)))

pub returns-in_err-path : goal.returns-in_err-path
returns-in_err-path g c = goes _ (c.in_ok-must_read_or_write.ensures _ _) (goes _ (c.in_ok-must_create_to_exclude.ensures _ _) (goes _ (c.in_ok-must_write_to_truncate.ensures _ _) (stops _ c.from_residual-in_err-path.ensures.1 (c.in_err-path.ensures _))))

pub returns : goal.returns
returns g c = goes _ (c.in_ok-must_read_or_write.ensures _ _) (goes _ (c.in_ok-must_create_to_exclude.ensures _ _) (goes _ (c.in_ok-must_write_to_truncate.ensures _ _) (goes _ (c.in_ok-path.ensures _) c.open_path-change.ensures)))
