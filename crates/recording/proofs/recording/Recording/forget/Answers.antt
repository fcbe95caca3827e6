use Rattle.recording.proofs.Keeping.{recorded_forgotten}
use Rattle.recording.proofs.recording.Recording.forget.Goals as goal

pub invariant_of-self : goal.invariant_of-self
invariant_of-self g c = recorded_forgotten (g.M.Machine.shown c.self.inside.machine) (g.M.Machine.shown c.forget.new.self) c.self.inside.notes c.forget.result c.self.invariant c.forget.ensures.kept c.forget.ensures.yes c.forget.ensures.no
