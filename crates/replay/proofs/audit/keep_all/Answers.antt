use Rattle.replay.specs.Transactions.{own_kept}
use Rattle.plain_kernel.proofs.Laws.{gone, if_ok, put_back}
use Rattle.replay.proofs.Keeping.{kept_next}
use Rattle.replay.proofs.audit.keep_all.Goals as goal

pub keep-requires : goal.keep-requires
keep-requires c = gone _ _ _ _ c.key_of.ensures c.remove-kept.ensures.changed

pub returns : goal.returns
returns c = if_ok c.doom_all.result c.doom_all.ensures (λ h q. kept_next c.args.position c.args.entry.now q _ _ _ _ c.as_slice.ensures
    (put_back (λ o. own_kept c.args.position o c.args.entry.now.op c.args.entry.now.reply) _ _ _ _ _ _ _ c.key_of.ensures c.remove-kept.ensures.changed c.remove-kept.ensures.before c.in_ok-next.ensures c.in_ok-keep.ensures q) (h q))
