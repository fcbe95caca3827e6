use Rattle.std.proofs.Common.{min, sym, ap}
use Rattle.model.specs.Plan.{ask, Read_file}
use Rattle.model.specs.Plans.{most_moved}
use Rattle.walk.proofs.Laws.{goes, stops, via}
use Rattle.calls.proofs.Offsets.{read_from_last, read_fails}
use Rattle.calls.proofs.at_offset.read_from.Goals as goal

pub returns-in_err-bytes : goal.returns-in_err-bytes
returns-in_err-bytes g c = stops _ c.from_residual.ensures.1 (read_fails (g.L.Look.state c.args.look.now) c.args.file (min c.args.count most_moved) _ c.args.offset c.bounded.result _ _ (via (ap (λ n. ask (Read_file c.args.file c.bounded.result n)) (sym c.at_most_moved.ensures)) c.in_err-bytes.ensures.value))

pub returns : goal.returns
returns g c = goes _ (read_from_last (g.L.Look.state c.args.look.now) c.args.file (min c.args.count most_moved) _ c.args.offset c.bounded.result _ _ c.bounded.ensures c.in_ok-bytes.ensures.small (via (ap (λ n. ask (Read_file c.args.file c.bounded.result n)) (sym c.at_most_moved.ensures)) c.in_ok-bytes.ensures.value)) (c.unchanged.ensures _ _)
