use Rattle.std.proofs.Common.{refl, ap, ◌∙◌, nat_eq}
use Rattle.std.specs.Prelude.{if◌then◌else◌}
use Rattle.std.specs.HashMap.{get}
use Rattle.std.proofs.lemmas.List.{take_all}
use Rattle.model.specs.Moments.{is_in}
use Rattle.redo_records.specs.Kept.{in_place}
use Rattle.redo_records.specs.declared.transaction.Transaction.TheVariants.{Doomed}
use Rattle.redo_records.proofs.Dooming.{doom_more}
use Rattle.redo_records.proofs.recorder.doom_all.Goals as goal

pub loop-pid-init : goal.loop-pid-init
loop-pid-init c = λ q. refl

pub loop-pid-preserved : goal.loop-pid-preserved
loop-pid-preserved c = λ q. doom_more (get nat_eq c.args.transactions.now q) (get nat_eq c.loop-pid.transactions q) (get nat_eq c.set.new.transactions q) q c.args.doomed.now c.loop-pid.pid-index c.pid-item.result c.loop-pid-test.true c.pid-item.is (c.loop-pid.invariant q) (c.set.ensures q)

pub returns : goal.returns
returns c = λ q. c.loop-pid.invariant q ∙ ap (λ ds. if is_in q ds then in_place Doomed (get nat_eq c.args.transactions.now q) else get nat_eq c.args.transactions.now q) (take_all _ _ c.loop-pid-test.false)
