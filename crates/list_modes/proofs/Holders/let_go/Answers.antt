use Rattle.std.proofs.Common.{subst}
use Rattle.list_modes.specs.Holding.{Table, LetsGo}
use Rattle.list_modes.proofs.Leaving.{others_hold, all_gone}
use Rattle.list_modes.proofs.Holders.let_go.Goals as goal

pub loop-dir-preserved : goal.loop-dir-preserved
loop-dir-preserved c = record {
  others = others_hold c.self.inside.marks.entries c.loop-dir.self-inside.marks.entries c.take_marks.new.marks.entries c.args.pid c.in-Some.dir c.loop-dir.invariant.others c.take_marks.ensures.sets;
  counted = c.take_marks.ensures.counted;
}

pub returns : goal.returns
returns c = subst (λ (t : Table). LetsGo t c.loop-dir.self-inside.marks.entries c.args.pid) c.self.view_is
    (all_gone c.self.inside.marks.entries c.loop-dir.self-inside.marks c.args.pid c.loop-dir.invariant.others c.in_default.ensures.none)
