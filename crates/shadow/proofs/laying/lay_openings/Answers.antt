use Rattle.std.proofs.Common.{◌≡◌, ◌∷◌, ◌∙◌, sym, subst, nat_cmp}
use Rattle.std.specs.List.Sorted.{IsStrictlySortedBy}
use Rattle.std.specs.Map.{keys_of}
use Rattle.shadow.proofs.committing.DescriptionSteps.{Reopens, all_reopened, first_to_come, reopens_nothing}
use Rattle.shadow.proofs.committing.DescriptionSteps.{reopens_on}
use Rattle.shadow.proofs.laying.lay_openings.Goals as goal

pub loop-num-init : goal.loop-num-init
loop-num-init c =
    let s = c.args.store.now in
    let is : c.into_iter-num-iterator.result ≡ c.args.openings.now =
    c.into_iter-num-iterator.ensures.into_iter_gives.0 ∙ c.openings.view_is in
    subst (Reopens s s c.args.openings.now) (sym is)
    (reopens_nothing s c.args.openings.now c.requires
    (subst (λ es. IsStrictlySortedBy nat_cmp (keys_of es)) c.openings.view_is
    c.into_iter-num-iterator.ensures.into_iter_gives.5))

left : (c : goal.After-lay_opening-arg-in-loop-num-2-1)
    → Reopens c.args.store.now c.loop-num.store c.args.openings.now
    ((c.in-Some.num.now, c.in-Some.opening.now) ∷ c.next.new.self)
left c = subst (Reopens c.args.store.now c.loop-num.store c.args.openings.now)
    c.in-Some.ensures.steps c.loop-num.invariant

pub lay_opening-requires : goal.lay_opening-requires
lay_opening-requires c =
    first_to_come c.in-Some.num.now c.in-Some.opening.now c.next.new.self c.loop-num.store
    (left c).coming

pub loop-num-preserved : goal.loop-num-preserved
loop-num-preserved c =
    reopens_on c.args.store.now c.loop-num.store c.args.openings.now c.in-Some.num.now
    c.in-Some.opening.now c.next.new.self (left c.before) c.lay_opening.new.store
    c.lay_opening.ensures

pub returns : goal.returns
returns c = all_reopened c.args.store.now c.loop-num.store c.args.openings.now
    (subst (Reopens c.args.store.now c.loop-num.store c.args.openings.now) c.in-None.ensures.steps.0
    c.loop-num.invariant)
