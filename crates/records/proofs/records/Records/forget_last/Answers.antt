use Rattle.records.proofs.Indexing.{indexed_taken}
use Rattle.records.proofs.records.Records.forget_last.Goals as goal

pub invariant_of-self : goal.invariant_of-self
invariant_of-self c =
    let within = rw (← c.self.view_is) at c.requires.within in
    rw c.pop-touch.ensures.journals (
      indexed_taken c.self.inside.journals c.self.inside.index c.leave.new.index c.pop-touch.result c.args.pid _ c.self.invariant.0 within c.pop-touch.ensures.last c.pop-touch.ensures.once c.leave.ensures.users,
      c.leave.ensures.listed c.self.invariant.1,
    )
