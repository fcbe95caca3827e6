use Rattle.std.proofs.Common.{◌≡◌, ◌≢◌, ℕ, List, Option, length, sym, ap, ap₂, subst, ◌∙◌, arith}
use Rattle.std.proofs.lemmas.List.{with_items_is}
use Rattle.model.specs.FiniteMap.{get, insert}
use Rattle.fdtable.specs.Patches.{Given, IsPatch}
use Rattle.fdtable.specs.Words.{bit_in}
use Rattle.fdtable.proofs.Patched.{noted_insert, noted_patch, noted_room, notes}
use Rattle.fdtable.proofs.patch.SlotPatch.swap.Goals as goal

pub put-requires-clause-room : goal.put-requires-clause-room
put-requires-clause-room c =
    (noted_room c.self.inside.given c.self.inside.closed.items c.self.invariant c.args.fd (λ none. c.requires.noted (ap (λ (m : Given). get m c.args.fd) (sym c.self.view_is) ∙ none))).0

pub put-requires-clause-long : goal.put-requires-clause-long
put-requires-clause-long c =
    let place = noted_room c.self.inside.given c.self.inside.closed.items c.self.invariant c.args.fd (λ none. c.requires.noted (ap (λ (m : Given). get m c.args.fd) (sym c.self.view_is) ∙ none)) in
    omega (arith, place.1, ap length c.as_mut_slice.ensures.value)

pub invariant_of-self : goal.invariant_of-self
invariant_of-self c =
    let given = c.self.inside.given in
    let closed : List ℕ = c.self.inside.closed.items in
    let place = noted_room given closed c.self.invariant c.args.fd (λ none. c.requires.noted (ap (λ (m : Given). get m c.args.fd) (sym c.self.view_is) ∙ none)) in
    let count : length c.put.new.closed ≡ length closed = c.put.ensures.count ∙ ap length c.as_mut_slice.ensures.value in
    subst (IsPatch c.put.new.given) (sym (with_items_is c.self.inside.closed c.put.new.closed (count ∙ sym c.self.inside.closed.ok.0)))
    (noted_patch given c.put.new.given closed c.put.new.closed c.args.fd c.put-former.result c.self.invariant c.put.ensures.slots c.put.ensures.rooms c.put.ensures.here
    (λ q away. c.put.ensures.others q away ∙ ap (λ (ws : List ℕ). bit_in ws q) c.as_mut_slice.ensures.value) count place.0 place.1)

pub returns-in-Some-clause-former : goal.returns-in-Some-clause-former
returns-in-Some-clause-former c =
    let given = c.self.inside.given in
    let closed : List ℕ = c.self.inside.closed.items in
    let place = noted_room given closed c.self.invariant c.args.fd (λ none. c.requires.noted (ap (λ (m : Given). get m c.args.fd) (sym c.self.view_is) ∙ none)) in
    let count : length c.put.new.closed ≡ length closed = c.put.ensures.count ∙ ap length c.as_mut_slice.ensures.value in
    let others : (q : ℕ) → q ≢ c.args.fd → bit_in c.put.new.closed q ≡ bit_in closed q = λ q away. c.put.ensures.others q away ∙ ap (λ (ws : List ℕ). bit_in ws q) c.as_mut_slice.ensures.value in
    let so = noted_patch given c.put.new.given closed c.put.new.closed c.args.fd c.put-former.result c.self.invariant c.put.ensures.slots c.put.ensures.rooms c.put.ensures.here others count place.0 place.1 in
    subst (λ (ws : List ℕ). notes c.put.new.given ws ≡ insert c.args.self.now c.args.fd (get c.args.table.now.slots c.args.fd)) (sym (with_items_is c.self.inside.closed c.put.new.closed (count ∙ sym c.self.inside.closed.ok.0)))
    (noted_insert given c.put.new.given closed c.put.new.closed c.args.fd c.put-former.result c.self.invariant c.put.ensures.slots c.put.ensures.rooms c.put.ensures.here others count so
    ∙ ap₂ (λ (m : Given) (o : Option ℕ). insert m c.args.fd o) c.self.view_is c.put-former.ensures.former)
