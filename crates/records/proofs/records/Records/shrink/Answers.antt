use Rattle.records.proofs.Indexing.{indexed_shrunk}
use Rattle.records.proofs.records.Records.shrink.Goals as goal

pub invariant_of-self : goal.invariant_of-self
invariant_of-self c =
    let some = rw (← c.self.view_is) at c.requires.some in
    let untouched = rw (← c.self.view_is) at c.requires.untouched in
    (indexed_shrunk c.self.inside.journals c.shrink.new.self c.self.inside.index c.self.invariant.0 some untouched c.shrink.ensures, c.self.invariant.1)
