use Rattle.std.proofs.Common.{◌≡◌, ◌/◌, ◌<◌, ℕ, List, length, refl, sym, ap, subst, ◌∙◌, arith}
use Rattle.std.proofs.lemmas.List.{with_items_is}
use Rattle.model.specs.FiniteMap.{insert}
use Rattle.fdtable.specs.Patches.{IsPatch}
use Rattle.fdtable.specs.Words.{bit_in}
use Rattle.fdtable.proofs.Patched.{grown_view, made_notes, made_patch, notes, on_err}
use Rattle.fdtable.proofs.patch.SlotPatch.note.Goals as goal

pub returns-in_err-promise-2-clause-err : goal.returns-in_err-promise-2-clause-err
returns-in_err-promise-2-clause-err c =
    on_err c.from_residual-in_err-promise-2.result (notes c.promise-2.new.self c.self.inside.closed.items ≡ c.args.self.now)
    (grown_view c.self.inside.given c.promise-2.new.self c.self.inside.closed.items c.self.inside.closed.items c.self.invariant c.promise-2.ensures.slots (λ q. refl)
    c.promise-2.ensures.rooms (omega arith) c.self.invariant.few c.args.self.now c.self.view_is)

pub returns-in_err-reach-clause-err : goal.returns-in_err-reach-clause-err
returns-in_err-reach-clause-err c =
    on_err c.from_residual-in_err-reach.result (notes c.promise-2.new.self c.reach.new.words.items ≡ c.args.self.now)
    (grown_view c.self.inside.given c.promise-2.new.self c.self.inside.closed.items c.reach.new.words.items c.self.invariant c.promise-2.ensures.slots c.reach.ensures.bits
    c.promise-2.ensures.rooms c.reach.ensures.longer (omega (arith, c.reach.ensures.few, c.self.invariant.few, c.requires, c.fd.view_is)) c.args.self.now c.self.view_is)

pub invariant_of-self-2 : goal.invariant_of-self-2
invariant_of-self-2 c =
    let count : length c.put.new.closed ≡ length c.reach.new.words.items = c.put.ensures.count ∙ ap length c.as_mut_slice.ensures.value in
    subst (IsPatch c.put.new.given) (sym (with_items_is c.reach.new.words c.put.new.closed (count ∙ sym c.reach.new.words.ok.0)))
    (made_patch c.self.inside.given c.promise-2.new.self c.put.new.given c.self.inside.closed.items c.reach.new.words.items c.put.new.closed c.args.fd c.args.given c.self.invariant
    c.promise-2.ensures.slots c.reach.ensures.bits c.promise-2.ensures.rooms c.reach.ensures.longer (omega (arith, c.reach.ensures.few, c.self.invariant.few, c.requires, c.fd.view_is))
    c.put.ensures.slots c.put.ensures.rooms c.put.ensures.here (λ q away. c.put.ensures.others q away ∙ ap (λ (ws : List ℕ). bit_in ws q) c.as_mut_slice.ensures.value) count
    c.in_ok-promise-2.ensures.ok (subst (λ (k : ℕ). k / 64 < length c.reach.new.words.items) c.fd.view_is c.in_ok-reach.ensures.ok))

pub returns-clause-ok : goal.returns-clause-ok
returns-clause-ok c =
    let count : length c.put.new.closed ≡ length c.reach.new.words.items = c.put.ensures.count ∙ ap length c.as_mut_slice.ensures.value in
    subst (λ (ws : List ℕ). notes c.put.new.given ws ≡ insert c.args.self.now c.args.fd c.args.given) (sym (with_items_is c.reach.new.words c.put.new.closed (count ∙ sym c.reach.new.words.ok.0)))
    (made_notes c.self.inside.given c.promise-2.new.self c.put.new.given c.self.inside.closed.items c.reach.new.words.items c.put.new.closed c.args.fd c.args.given c.self.invariant
    c.promise-2.ensures.slots c.reach.ensures.bits c.promise-2.ensures.rooms c.reach.ensures.longer (omega (arith, c.reach.ensures.few, c.self.invariant.few, c.requires, c.fd.view_is))
    c.put.ensures.slots c.put.ensures.rooms c.put.ensures.here (λ q away. c.put.ensures.others q away ∙ ap (λ (ws : List ℕ). bit_in ws q) c.as_mut_slice.ensures.value) count
    c.in_ok-promise-2.ensures.ok (subst (λ (k : ℕ). k / 64 < length c.reach.new.words.items) c.fd.view_is c.in_ok-reach.ensures.ok)
    c.args.self.now c.self.view_is)
