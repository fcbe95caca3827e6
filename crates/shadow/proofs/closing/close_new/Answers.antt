use Rattle.std.proofs.Common.{◌≡◌, ◌∷◌, [], List, ℕ, sym, ap, subst, rules}
use Rattle.std.specs.Map.{keys_of}
use Rattle.freeing_laws.specs.Sweep.{all_closed, closed}
use Rattle.store.specs.Numbers.{Numbers}
use Rattle.shadow.proofs.freeing.RemovalSteps.{Leaves, leaves_all, leaves_less, leaves_none}
use Rattle.shadow.proofs.closing.close_new.Goals as goal

pub loop-num-init : goal.loop-num-init
loop-num-init c =
    let s : Numbers = c.args.store.now in
    let gives : c.into_iter-num-iterator.result ≡ c.args.openings.now = search rules in
    subst (Leaves all_closed s s (keys_of c.args.openings.now)) (ap keys_of (sym gives)) (leaves_all all_closed s (keys_of c.args.openings.now) c.requires)

pub close-requires : goal.close-requires
close-requires c = c.loop-num.invariant.some

pub loop-num-preserved : goal.loop-num-preserved
loop-num-preserved c =
    let s : Numbers = c.args.store.now in
    let rest : List ℕ = keys_of c.next.new.self in
    let is : keys_of c.loop-num.num-iterator ≡ c.in-Some.num.now ∷ rest = ap keys_of c.in-Some.ensures.steps in
    leaves_less all_closed (closed c.in-Some.num.now) s c.loop-num.store c.close.new.store (keys_of c.args.openings.now) (keys_of c.loop-num.num-iterator) rest
    (λ k. ap (λ ns. all_closed ns k) is) c.loop-num.invariant c.close.ensures

pub returns : goal.returns
returns c =
    let none : keys_of c.loop-num.num-iterator ≡ [] = ap keys_of c.in-None.ensures.steps.0 in
    leaves_none all_closed c.args.store.now c.loop-num.store (keys_of c.args.openings.now) (keys_of c.loop-num.num-iterator) (λ k. ap (λ ns. all_closed ns k) none) c.loop-num.invariant
