use Rattle.std.proofs.Common.{◌≡◌, ◌∷◌, [], List, ℕ, length, refl, sym, ap, subst, rules, arith}
use Rattle.std.specs.Vec.Iter.{into_iter_items}
use Rattle.model.specs.State.{Kernel}
use Rattle.freeing_laws.specs.Counts.{free_inode}
use Rattle.freeing_laws.specs.Sweep.{free_inodes}
use Rattle.store.specs.Numbers.{Numbers}
use Rattle.shadow.proofs.freeing.RemovalSteps.{Leaves, leaves_all, leaves_less, leaves_none}
use Rattle.shadow.proofs.closing.free_all.Goals as goal

pub loop-num-init : goal.loop-num-init
loop-num-init c =
    let s : Numbers = c.args.store.now in
    let gives : into_iter_items c.into_iter-num-iterator.result ≡ c.args.unnamed.items = search rules in
    subst (Leaves free_inodes s s c.args.unnamed.items) (sym gives) (leaves_all free_inodes s c.args.unnamed.items c.requires)

pub free-requires : goal.free-requires
free-requires c = c.loop-num.invariant.some

pub loop-num-preserved : goal.loop-num-preserved
loop-num-preserved c =
    let s : Numbers = c.args.store.now in
    let rest : List ℕ = into_iter_items c.next.new.self in
    let is : into_iter_items c.loop-num.num-iterator ≡ c.in-Some.num ∷ rest = search rules in
    leaves_less free_inodes (free_inode c.in-Some.num) s c.loop-num.store c.free.new.store c.args.unnamed.items (into_iter_items c.loop-num.num-iterator) rest
    (λ k. ap (λ ns. free_inodes ns k) is) c.loop-num.invariant c.free.ensures

-- nothing is left
none_left : (ns : List ℕ) → length ns ≡ 0 → (k : Kernel) → free_inodes ns k ≡ k
none_left [] zero k = refl
none_left (n ∷ ns) zero k = absurd (omega arith)

pub returns : goal.returns
returns c =
    let zero : length (into_iter_items c.loop-num.num-iterator) ≡ 0 = search rules in
    leaves_none free_inodes c.args.store.now c.loop-num.store c.args.unnamed.items (into_iter_items c.loop-num.num-iterator) (none_left (into_iter_items c.loop-num.num-iterator) zero) c.loop-num.invariant
