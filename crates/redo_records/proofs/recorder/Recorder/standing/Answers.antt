use Rattle.std.proofs.Common.{◌∙◌, nat_eq}
use Rattle.std.specs.HashMap.{get}
use Rattle.redo_records.proofs.Rooms.{stands}
use Rattle.redo_records.proofs.recorder.Recorder.standing.Goals as goal

pub returns : goal.returns
returns c = λ m follows. c.kept_standing.ensures ∙ stands c.args.pid (m.phase c.args.pid) (get nat_eq c.args.self.now.transactions c.args.pid) (follows c.args.pid)
