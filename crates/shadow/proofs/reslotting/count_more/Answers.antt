use Rattle.std.proofs.Common.{Some, sym, subst}
use Rattle.shadow.specs.Laid.{AreHeld, IsOneMore}
use Rattle.shadow.proofs.committing.HolderCounts.{held_more}
use Rattle.shadow.proofs.reslotting.count_more.Goals as goal

pub returns-then-holders-lt340282366920938463463374607431768211455 :
    goal.returns-then-holders-lt340282366920938463463374607431768211455
returns-then-holders-lt340282366920938463463374607431768211455 c =
    subst (λ g. AreHeld (IsOneMore g) c.args.store.now c.add_holder.new.self) (sym c.in-Some.is)
    (subst (AreHeld (IsOneMore (Some c.in-Some.description)) c.args.store.now) (sym c.add_holder.ensures.counted) (held_more c.args.store.now c.in-Some.description))
