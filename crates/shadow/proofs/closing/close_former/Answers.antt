use Rattle.std.proofs.Common.{◌≡◌, ℕ, ◌+◌, ◌<◌, [], ◌∷◌, List, length, drop, get_or, sym, ap, ◌∙◌, add-one}
use Rattle.std.proofs.Math.Seq.{drop-cons}
use Rattle.std.proofs.lemmas.List.{drop_all}
use Rattle.std.specs.List.{flat_map}
use Rattle.model.specs.FiniteMap.{entries}
use Rattle.fdtable.specs.Patches.{Given}
use Rattle.freeing_laws.specs.Sweep.{all_closed}
use Rattle.shadow.specs.Laid.{given_by, given_in}
use Rattle.shadow.proofs.freeing.RemovalSteps.{closed_append, leaves_all, leaves_less, leaves_none}
use Rattle.shadow.proofs.closing.close_former.Goals as goal

-- the slots of this turn are the first of those that are left
this_one : (gs : List (ℕ × Given)) (i : ℕ) (g : ℕ × Given) → i < length gs → g ≡ get_or gs i g → g ∷ drop (i + 1) gs ≡ drop i gs
this_one gs i g low is = (λ j. is j ∷ drop (add-one i j) gs) ∙ sym (drop-cons gs i g low)

pub loop-pid-init : goal.loop-pid-init
loop-pid-init c = leaves_all all_closed c.args.store.now (given_in c.args.former.now) c.requires

pub close_given-requires : goal.close_given-requires
close_given-requires c = c.loop-pid.invariant.some

pub loop-pid-preserved : goal.loop-pid-preserved
loop-pid-preserved c =
    let gs : List (ℕ × Given) = c.args.former.now in
    let i : ℕ = c.loop-pid._pid-index in
    let g : ℕ × Given = c.loop-pid-item.result in
    let part : List ℕ = flat_map (λ g. given_by g.1) (entries g.1) in
    leaves_less all_closed (all_closed part) c.args.store.now c.loop-pid.store c.close_given.new.store (given_in gs) (given_in (drop i gs)) (given_in (drop (i + 1) gs))
    (λ k. ap (λ gs. all_closed (given_in gs) k) (sym (this_one gs i g c.loop-pid-test.true c.loop-pid-item.is)) ∙ closed_append part (given_in (drop (i + 1) gs)) k)
    c.loop-pid.invariant c.close_given.ensures

pub returns : goal.returns
returns c =
    let gs : List (ℕ × Given) = c.args.former.now in
    let i : ℕ = c.loop-pid._pid-index in
    let end : drop i gs ≡ [] = drop_all i gs c.loop-pid-test.false in
    leaves_none all_closed c.args.store.now c.loop-pid.store (given_in gs) (given_in (drop i gs)) (λ k. ap (λ gs. all_closed (given_in gs) k) end) c.loop-pid.invariant
