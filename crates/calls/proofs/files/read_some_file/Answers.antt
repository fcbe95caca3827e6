use Rattle.std.proofs.Common.{sym}
use Rattle.std.proofs.Common.{ap}
use Rattle.model.specs.Plan.{ask, Read_file}
use Rattle.model.specs.Plans.{changed}
use Rattle.model.specs.Calls.{Bytes}
use Rattle.walk.proofs.Laws.{goes, stops, via}
use Rattle.calls.proofs.files.read_some_file.Goals as goal

pub returns-in_err-offset : goal.returns-in_err-offset
returns-in_err-offset g c = stops _ c.from_residual.ensures.1 c.in_err-offset.ensures

pub returns-in_err-bytes : goal.returns-in_err-bytes
returns-in_err-bytes g c = goes _ c.in_ok-offset.ensures (stops _ c.from_residual-in_err-bytes.ensures.1 (via (ap (λ n. ask (Read_file c.args.file c.in_ok-offset.offset n)) (sym c.at_most_moved.ensures)) c.in_err-bytes.ensures.value))

pub returns : goal.returns
returns g c = goes _ c.in_ok-offset.ensures (goes _ (via (ap (λ n. ask (Read_file c.args.file c.in_ok-offset.offset n)) (sym c.at_most_moved.ensures)) c.in_ok-bytes.ensures.value) (via (ap (changed (Bytes c.in_ok-bytes.bytes)) (sym c.in_ok-edits.ensures)) (c.changed.ensures _ _)))
