use Rattle.std.proofs.Common.{◌++◌, ap, ◌∙◌}
use Rattle.std.proofs.lemmas.List.{take_all}
use Rattle.replay.proofs.Guessing.{unchosen_all, unchosen_more}
use Rattle.replay.proofs.root.all_chosen.Goals as goal

pub loop-entry-preserved : goal.loop-entry-preserved
loop-entry-preserved c = unchosen_more c.args.entries.now c.loop-entry.entry-index c.entry-item.result c.loop-entry.all.items c.loop-num.all.items c.as_slice-chosen.result.now c.loop-entry-test.true c.entry-item.is (c.loop-num.invariant ∙ ap (λ ns. c.loop-entry.all.items ++ ns) (take_all _ _ c.loop-num-test.false)) c.as_slice-chosen.ensures c.loop-entry.invariant

pub returns : goal.returns
returns c = unchosen_all c.args.entries.now c.loop-entry.entry-index c.loop-entry.all.items c.loop-entry-test.false c.loop-entry.invariant
