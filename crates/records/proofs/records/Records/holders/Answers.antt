use Rattle.std.proofs.Common.{◌≡◌}
use Rattle.std.proofs.lemmas.Result.{IfOk-weaker}
use Rattle.records.specs.Ranges.{clashing_marks}
use Rattle.records.specs.Holders.{AreHolders}
use Rattle.records.proofs.Found.{holders_from}
use Rattle.records.proofs.records.Records.holders.Goals as goal

pub returns : goal.returns
returns c = rw (← c.self.view_is) (IfOk-weaker c.collect.result (λ found. found.items ≡ clashing_marks c.args.caller c.args.touch.now c.self.inside.index) (λ found. AreHolders c.self.inside.journals c.args.caller c.args.touch.now found.items) (λ found e. holders_from c.self.inside.journals c.self.inside.index c.args.caller c.args.touch.now c.self.invariant.0 c.self.invariant.1 found.items e) c.collect.ensures)
