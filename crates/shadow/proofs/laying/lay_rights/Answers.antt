use Rattle.std.proofs.Common.{◌≡◌, ◌∙◌, sym, subst, nat_cmp}
use Rattle.std.specs.List.Sorted.{IsStrictlySortedBy}
use Rattle.std.specs.Map.{keys_of}
use Rattle.shadow.proofs.committing.RightsSteps.{Revises, all_revised, first_there, revises_nothing}
use Rattle.shadow.proofs.committing.RightsSteps.{revises_on}
use Rattle.shadow.proofs.laying.lay_rights.Goals as goal

pub loop-num-init : goal.loop-num-init
loop-num-init c =
    let s = c.args.store.now in
    let is : c.into_iter-num-iterator.result ≡ c.args.rights.now =
    c.into_iter-num-iterator.ensures.into_iter_gives.0 ∙ c.rights.view_is in
    subst (Revises s s c.args.rights.now) (sym is)
    (revises_nothing s c.args.rights.now c.requires
    (subst (λ es. IsStrictlySortedBy nat_cmp (keys_of es)) c.rights.view_is
    c.into_iter-num-iterator.ensures.into_iter_gives.5))

pub set_rights-requires : goal.set_rights-requires
set_rights-requires c =
    first_there c.in-Some.num.now c.in-Some.given.now c.next.new.self c.loop-num.store
    (subst (Revises c.args.store.now c.loop-num.store c.args.rights.now)
    c.in-Some.ensures.steps c.loop-num.invariant).can

pub loop-num-preserved : goal.loop-num-preserved
loop-num-preserved c =
    revises_on c.args.store.now c.loop-num.store c.args.rights.now c.in-Some.num.now
    c.in-Some.given.now c.next.new.self
    (subst (Revises c.args.store.now c.loop-num.store c.args.rights.now)
    c.in-Some.ensures.steps c.loop-num.invariant) c.set_rights.new.self c.set_rights.ensures

pub returns : goal.returns
returns c = all_revised c.args.store.now c.loop-num.store c.args.rights.now
    (subst (Revises c.args.store.now c.loop-num.store c.args.rights.now) c.in-None.ensures.steps.0
    c.loop-num.invariant)
