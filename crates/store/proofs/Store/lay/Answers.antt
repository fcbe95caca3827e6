use Rattle.std.proofs.Common.{◌≡◌, ◌<◌, ◌≤◌, ℕ, true, ◌∷◌, length, Some, None, IfSome, count_by, is_some, nat_eq, refl, sym, subst, ap, ◌∙◌, rules, arith}
use Rattle.std.specs.Cmp.Lexicographic.{pointwise}
use Rattle.std.specs.List.{IsDistinct}
use Rattle.std.specs.Map.{keys_of}
use Rattle.model.specs.FiniteMap.{get}
use Rattle.dirlist.specs.Listing.{Listing}
use Rattle.store.specs.Laid.{in_order, laid, laid_listing}
use Rattle.store.specs.Places.{altered, may_be_named, with_listing}
use Rattle.store.specs.Shown.{descriptions, inodes}
use Rattle.store.proofs.Changes.{descriptions-changed, inodes-changed}
use Rattle.store.proofs.Laid.{all-in_order, count-in_order, laid_listing-in_order}
use Rattle.store.proofs.Laying.{Lays, begins, ended, goes_on, goes_on-gone, room_left, shown-comes_not, some_left}
use Rattle.store.proofs.Store.lay.Goals as goal

pub loop-name-init : goal.loop-name-init
loop-name-init c =
    let v = c.args.self.now in
    let gives : c.into_iter-name-iterator.result ≡ c.args.notes.entries = search rules in
    let differ : IsDistinct (pointwise nat_eq) (keys_of c.args.notes.entries) = search rules in
    let few : count_by (λ note. is_some note.1) c.args.notes.entries ≤ c.args.promised
    = subst (λ (n : ℕ). n ≤ c.args.promised) (sym (count-in_order c.args.notes.entries differ (λ note. is_some note.1))) c.requires.added in
    subst (λ rest. Lays v v c.args.dir c.args.notes.entries rest c.args.promised c.args.promised) (sym gives)
    (begins v c.args.dir c.args.notes.entries c.args.promised c.requires.shown c.requires.room few
    (all-in_order c.args.notes.entries differ (λ note. IfSome note.1 (λ n. may_be_named (get v.places n) ≡ true)) c.requires.numbers))

pub add_name-requires-clause-room : goal.add_name-requires-clause-room
add_name-requires-clause-room c =
    let is : c.loop-name.name-iterator ≡ (c.in-Some.name, Some c.in-Some-num.num) ∷ c.next.new.self = search rules in
    room_left c.args.self.now c.loop-name.self c.args.dir c.args.notes.entries c.in-Some.name c.in-Some-num.num c.next.new.self c.args.promised c.loop-name.left
    (subst (λ rest. Lays c.args.self.now c.loop-name.self c.args.dir c.args.notes.entries rest c.args.promised c.loop-name.left) is c.loop-name.invariant)

pub add_name-requires-clause-dir : goal.add_name-requires-clause-dir
add_name-requires-clause-dir c = shown-comes_not _ c.loop-name.invariant.shown

pub add_name-requires-clause-num : goal.add_name-requires-clause-num
add_name-requires-clause-num c =
    let is : c.loop-name.name-iterator ≡ (c.in-Some.name, Some c.in-Some-num.num) ∷ c.next.new.self = search rules in
    (subst (λ rest. Lays c.args.self.now c.loop-name.self c.args.dir c.args.notes.entries rest c.args.promised c.loop-name.left) is c.loop-name.invariant).numbers.0

pub overflow_sub-left : goal.overflow_sub-left
overflow_sub-left c =
    let is : c.loop-name.name-iterator ≡ (c.in-Some.name, Some c.in-Some-num.num) ∷ c.next.new.self = search rules in
    let some : 0 < c.loop-name.left
    = some_left c.args.self.now c.loop-name.self c.loop-name.self c.args.dir c.args.notes.entries c.next.new.self c.in-Some.name c.args.promised c.loop-name.left c.in-Some-num.num
    (subst (λ rest. Lays c.args.self.now c.loop-name.self c.args.dir c.args.notes.entries rest c.args.promised c.loop-name.left) is c.loop-name.invariant) in
    omega arith

pub loop-name-preserved-in-Some-num : goal.loop-name-preserved-in-Some-num
loop-name-preserved-in-Some-num c =
    let is : c.loop-name.name-iterator ≡ (c.in-Some.name, Some c.in-Some-num.num) ∷ c.next.new.self = search rules in
    goes_on c.args.self.now c.loop-name.self c.add_name.new.self c.args.dir c.args.notes.entries c.next.new.self c.in-Some.name c.args.promised c.loop-name.left c.in-Some-num.num
    (subst (λ rest. Lays c.args.self.now c.loop-name.self c.args.dir c.args.notes.entries rest c.args.promised c.loop-name.left) is c.loop-name.invariant)
    c.add_name.ensures.added

pub loop-name-preserved : goal.loop-name-preserved
loop-name-preserved c =
    let is : c.loop-name.name-iterator ≡ (c.in-Some.name, None) ∷ c.next.new.self = search rules in
    goes_on-gone c.args.self.now c.loop-name.self c.remove_name-former.new.self c.args.dir c.args.notes.entries c.next.new.self c.in-Some.name c.args.promised c.loop-name.left
    (subst (λ rest. Lays c.args.self.now c.loop-name.self c.args.dir c.args.notes.entries rest c.args.promised c.loop-name.left) is c.loop-name.invariant)
    c.remove_name-former.ensures.removed

pub release_all-requires : goal.release_all-requires
release_all-requires c = c.loop-name.invariant.shown

pub returns-clause-laid : goal.returns-clause-laid
returns-clause-laid c =
    let differ : IsDistinct (pointwise nat_eq) (keys_of c.args.notes.entries) = search rules in
    let zero : length c.loop-name.name-iterator ≡ 0 = search rules in
    c.release_all.ensures ∙ ended c.args.self.now c.loop-name.self c.args.dir c.args.notes.entries _ c.args.promised c.loop-name.left zero c.loop-name.invariant
    ∙ ap (λ (f : Listing → Listing). altered (with_listing f) c.args.self.now c.args.dir) (laid_listing-in_order c.args.notes.entries differ c.args.promised)

pub returns-clause-shown : goal.returns-clause-shown
returns-clause-shown c = ap inodes (returns-clause-laid c) ∙ inodes-changed (laid_listing (in_order c.args.notes.entries) c.args.promised) (laid (in_order c.args.notes.entries)) (λ _. refl) c.args.self.now c.args.dir

pub returns-clause-open : goal.returns-clause-open
returns-clause-open c = ap descriptions (returns-clause-laid c) ∙ descriptions-changed (laid_listing (in_order c.args.notes.entries) c.args.promised) c.args.self.now c.args.dir
