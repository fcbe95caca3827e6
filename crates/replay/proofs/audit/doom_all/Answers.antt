use Rattle.std.proofs.Common.{refl, ap, ◌∙◌}
use Rattle.std.specs.Prelude.{if◌then◌else◌}
use Rattle.std.proofs.lemmas.List.{take_all}
use Rattle.model.specs.FiniteMap.{get}
use Rattle.model.specs.Moments.{is_in}
use Rattle.replay.specs.Transactions.{doomed_kept}
use Rattle.plain_kernel.proofs.Laws.{gone, put_back}
use Rattle.replay.proofs.Keeping.{doom_more}
use Rattle.replay.proofs.audit.doom_all.Goals as goal

pub keep-requires : goal.keep-requires
keep-requires c = gone _ _ _ _ c.key_of.ensures c.remove-kept.ensures.changed

pub loop-pid-init : goal.loop-pid-init
loop-pid-init c = λ q. refl

pub loop-pid-preserved : goal.loop-pid-preserved
loop-pid-preserved c = doom_more c.args.transactions.now c.loop-pid.transactions c.keep.new.transactions c.args.doomed.now c.loop-pid.pid-index c.pid-item.result c.loop-pid-test.true c.pid-item.is c.loop-pid.invariant
    (λ q. put_back doomed_kept _ _ _ _ _ _ _ c.key_of.ensures c.remove-kept.ensures.changed c.remove-kept.ensures.before c.doomed_kept.ensures c.in_ok-keep.ensures q)

pub returns : goal.returns
returns c = λ q. c.loop-pid.invariant q ∙ ap (λ ds. if is_in q ds then doomed_kept (get c.args.transactions.now q) else get c.args.transactions.now q) (take_all _ _ c.loop-pid-test.false)
