use Rattle.std.proofs.Common.{sym, subst}
use Rattle.contention.specs.Contenders.{AreContendersOf}
use Rattle.contention.proofs.Alone.{is_alone}
use Rattle.contention.proofs.Contenders.others_touched.Goals as goal

pub returns : goal.returns
returns c = λ none m kept. is_alone c.self.inside.ranks c.self.inside.records c.args.pid c.self.invariant (c.others_touched.ensures none)
    m (subst (AreContendersOf m) (sym c.self.view_is) kept)
