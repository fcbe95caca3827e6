use Rattle.std.proofs.Common.{Some, sym, subst}
use Rattle.shadow.specs.Laid.{AreHeld, IsOneLess}
use Rattle.shadow.proofs.committing.HolderCounts.{held_less}
use Rattle.shadow.proofs.reslotting.count_less.Goals as goal

pub returns-in-Some : goal.returns-in-Some
returns-in-Some c =
    subst (λ g. AreHeld (IsOneLess g) c.args.store.now c.remove_holder.new.self) (sym c.in-Some.is)
    (subst (AreHeld (IsOneLess (Some c.in-Some.description)) c.args.store.now) (sym c.remove_holder.ensures.counted) (held_less c.args.store.now c.in-Some.description))
