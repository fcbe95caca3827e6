use Rattle.std.proofs.Common.{rules}
use Rattle.conflict.proofs.Placed.{clashes_of}
use Rattle.conflict.proofs.find.add_clashes_of.Goals as goal

pub returns : goal.returns
returns c = (c.in_ok-set.set.keys, search rules, clashes_of c.args.records.now c.args.caller c.args.touch.now c.in_ok-marks.marks.items c.in_ok-set.set.keys c.in_ok-marks.ensures c.in_ok-set.ensures.mine c.in_ok-set.ensures.exact c.into_iter-clash-iterator.ensures.into_iter_gives.4)
