use Rattle.std.proofs.Common.{sym, ap, ◌∙◌}
use Rattle.model.specs.Plan.{Give}
use Rattle.model.specs.Plans.{replaced_by_name}
use Rattle.model.specs.Changes.{Over_directory}
use Rattle.path_calls.specs.Parts.{replaced}
use Rattle.walk.proofs.Laws.{goes, stops, via, gives}
use Rattle.path_calls.proofs.Binds.{bare_then}
use Rattle.path_calls.proofs.paths.replaced.Goals as goal

pub returns-in_err-must_be_no_directory_for : goal.returns-in_err-must_be_no_directory_for
returns-in_err-must_be_no_directory_for g c = via (ap (replaced c.args.what.now) c.in-Some.is) (stops _ c.from_residual.ensures.1 (c.in_err-must_be_no_directory_for.ensures _ _))

pub returns-in_err-must_be_directory_for : goal.returns-in_err-must_be_directory_for
returns-in_err-must_be_directory_for g c = via (ap (replaced c.args.what.now) c.in-Some.is) (goes _ (c.in_ok-must_be_no_directory_for.ensures _ _) (stops _ c.from_residual-in_err-must_be_directory_for.ensures.1 (c.in_err-must_be_directory_for.ensures _ _)))

pub returns-in_err-must_have_no_names : goal.returns-in_err-must_have_no_names
returns-in_err-must_have_no_names g c = via (ap (replaced c.args.what.now) c.in-Some.is) (goes _ (c.in_ok-must_be_no_directory_for.ensures _ _) (goes _ (c.in_ok-must_be_directory_for.ensures _ _) (via (ap (replaced_by_name c.in-Some.old.0) (sym c.is_directory.ensures ∙ c.if-is_directory.true)) (via (bare_then c.in-Some.old.0 (Give (Over_directory c.in-Some.old.0))) (stops _ c.from_residual-in_err-must_have_no_names.ensures.1 c.in_err-must_have_no_names.ensures)))))

pub returns-in_ok-must_have_no_names : goal.returns-in_ok-must_have_no_names
returns-in_ok-must_have_no_names g c = via (ap (replaced c.args.what.now) c.in-Some.is) (goes _ (c.in_ok-must_be_no_directory_for.ensures _ _) (goes _ (c.in_ok-must_be_directory_for.ensures _ _) (via (ap (replaced_by_name c.in-Some.old.0) (sym c.is_directory.ensures ∙ c.if-is_directory.true)) (via (bare_then c.in-Some.old.0 (Give (Over_directory c.in-Some.old.0))) (goes _ c.in_ok-must_have_no_names.ensures gives)))))

pub returns-else-is_directory : goal.returns-else-is_directory
returns-else-is_directory g c = via (ap (replaced c.args.what.now) c.in-Some.is) (goes _ (c.in_ok-must_be_no_directory_for.ensures _ _) (goes _ (c.in_ok-must_be_directory_for.ensures _ _) (via (ap (replaced_by_name c.in-Some.old.0) (sym c.is_directory.ensures ∙ c.if-is_directory.false)) gives)))
