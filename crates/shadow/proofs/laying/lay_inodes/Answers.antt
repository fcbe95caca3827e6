use Rattle.std.proofs.Common.{◌≡◌, ◌∷◌, ◌∙◌, sym, subst, nat_cmp}
use Rattle.std.specs.List.Sorted.{IsStrictlySortedBy}
use Rattle.std.specs.Map.{keys_of}
use Rattle.shadow.proofs.committing.InodeSteps.{AreCarried, Carries, all_carried, carries_nothing, carries_on, first_ready}
use Rattle.shadow.proofs.laying.lay_inodes.Goals as goal

pub loop-num-init : goal.loop-num-init
loop-num-init c =
    let s = c.args.store.now in
    let is : c.into_iter-num-iterator.result ≡ c.args.inodes = c.into_iter-num-iterator.ensures.into_iter_gives.0 ∙ c.inodes.view_is in
    subst (Carries s s c.args.inodes) (sym is)
    (carries_nothing s c.args.inodes c.requires (subst (λ es. IsStrictlySortedBy nat_cmp (keys_of es)) c.inodes.view_is c.into_iter-num-iterator.ensures.into_iter_gives.5))

left : (c : goal.After-lay_inode-arg-1) → Carries c.args.store.now c.loop-num.store c.args.inodes ((c.in-Some.num, c.in-Some.change) ∷ c.next.new.self)
left c = subst (Carries c.args.store.now c.loop-num.store c.args.inodes) c.in-Some.ensures.steps c.loop-num.invariant

pub lay_inode-requires : goal.lay_inode-requires
lay_inode-requires c = first_ready c.in-Some.num c.in-Some.change c.next.new.self c.loop-num.store (left c).ready

pub loop-num-preserved : goal.loop-num-preserved
loop-num-preserved c =
    carries_on c.args.store.now c.loop-num.store c.args.inodes c.in-Some.num c.in-Some.change c.next.new.self (left c.before) c.lay_inode.new.store
    c.lay_inode.ensures.root c.lay_inode.ensures.rights c.lay_inode.ensures.here c.lay_inode.ensures.others

made : (c : goal.After-drop-num-iterator) → AreCarried c.args.inodes c.args.store.now c.loop-num.store
made c = all_carried c.args.store.now c.loop-num.store c.args.inodes (subst (Carries c.args.store.now c.loop-num.store c.args.inodes) c.in-None.ensures.steps.0 c.loop-num.invariant)

pub returns-clause-root : goal.returns-clause-root
returns-clause-root c = (made c).root

pub returns-clause-rights : goal.returns-clause-rights
returns-clause-rights c = (made c).rights

pub returns-clause-places : goal.returns-clause-places
returns-clause-places c = (made c).places
