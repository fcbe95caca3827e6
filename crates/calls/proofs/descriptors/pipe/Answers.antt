use Rattle.std.proofs.Common.{ℕ, ◌+◌, sym, ap}
use Rattle.model.specs.Plan.{EMFILE, ◌>>=◌, or_refuse}
use Rattle.walk.proofs.Laws.{goes, stops, via}
use Rattle.look.specs.Shown.{first_free}
use Rattle.calls.proofs.Frees.{paired, pipe_by}
use Rattle.calls.proofs.descriptors.pipe.Goals as goal

pub returns-in_err-reader : goal.returns-in_err-reader
returns-in_err-reader g c before = via (pipe_by (g.L.Look.state c.args.look.now) c.args.pid) (stops _ c.from_residual.ensures.1 (c.in_err-reader.ensures.value _))

pub returns-in_err-writer : goal.returns-in_err-writer
returns-in_err-writer g c before = via (pipe_by (g.L.Look.state c.args.look.now) c.args.pid) (goes _ (c.in_ok-reader.ensures.value _) (via (ap (λ (f : ℕ). or_refuse EMFILE (first_free (g.L.Look.state c.args.look.now) c.args.pid (f + 1)) >>= paired c.args.pid c.in_ok-reader.reader) (sym c.reader.view_is)) (stops _ c.from_residual-in_err-writer.ensures.1 (c.in_err-writer.ensures.value _))))

pub returns : goal.returns
returns g c before = via (pipe_by (g.L.Look.state c.args.look.now) c.args.pid) (goes _ (c.in_ok-reader.ensures.value _) (via (ap (λ (f : ℕ). or_refuse EMFILE (first_free (g.L.Look.state c.args.look.now) c.args.pid (f + 1)) >>= paired c.args.pid c.in_ok-reader.reader) (sym c.reader.view_is)) (goes _ (c.in_ok-writer.ensures.value _) (c.changed_by.ensures _ _))))
