use Rattle.std.proofs.Common.{◌≡◌, ℕ, Bool, List, length, sym, ap, subst, ◌∙◌, arith, inl, inr}
use Rattle.std.proofs.lemmas.List.{with_items_is}
use Rattle.model.specs.FiniteMap.{insert}
use Rattle.fdtable.specs.Pages.{HasRoom}
use Rattle.fdtable.specs.Patches.{IsPatch}
use Rattle.fdtable.specs.Words.{bit_in}
use Rattle.fdtable.proofs.Patched.{made_notes, made_patch, notes}
use Rattle.fdtable.proofs.patch.SlotPatch.note_in.Goals as goal

pub invariant_of-self : goal.invariant_of-self
invariant_of-self c =
    let count : length c.put.new.closed ≡ length c.join-3.new.words.items = c.put.ensures.count ∙ ap length c.as_mut_slice.ensures.value in
    subst (IsPatch c.put.new.given) (sym (with_items_is c.join-3.new.words c.put.new.closed (count ∙ sym c.join-3.new.words.ok.0)))
    (made_patch c.self.inside.given c.join-2.new.self c.put.new.given c.self.inside.closed.items c.join-3.new.words.items c.put.new.closed c.place.inside.fd c.args.given c.self.invariant
    c.join-2.ensures.slots c.join-3.ensures.bits (λ q room. c.join-2.ensures.rooms q (inl room)) (omega (arith, c.join-3.ensures.long)) (omega (arith, c.join-3.ensures.long, c.self.invariant.few, c.place.invariant.few))
    c.put.ensures.slots c.put.ensures.rooms c.put.ensures.here (λ q away. c.put.ensures.others q away ∙ ap (λ (ws : List ℕ). bit_in ws q) c.as_mut_slice.ensures.value) count
    (c.join-2.ensures.rooms c.place.inside.fd (inr (subst (λ (r : List Bool). HasRoom r c.place.inside.fd) (sym c.into_pages.ensures.rooms) c.place.invariant.given))) (omega (arith, c.join-3.ensures.long, c.place.invariant.bit)))

pub returns-clause-value : goal.returns-clause-value
returns-clause-value c =
    let count : length c.put.new.closed ≡ length c.join-3.new.words.items = c.put.ensures.count ∙ ap length c.as_mut_slice.ensures.value in
    subst (λ (ws : List ℕ). notes c.put.new.given ws ≡ insert c.args.self.now c.args.place c.args.given) (sym (with_items_is c.join-3.new.words c.put.new.closed (count ∙ sym c.join-3.new.words.ok.0)))
    (made_notes c.self.inside.given c.join-2.new.self c.put.new.given c.self.inside.closed.items c.join-3.new.words.items c.put.new.closed c.place.inside.fd c.args.given c.self.invariant
    c.join-2.ensures.slots c.join-3.ensures.bits (λ q room. c.join-2.ensures.rooms q (inl room)) (omega (arith, c.join-3.ensures.long)) (omega (arith, c.join-3.ensures.long, c.self.invariant.few, c.place.invariant.few))
    c.put.ensures.slots c.put.ensures.rooms c.put.ensures.here (λ q away. c.put.ensures.others q away ∙ ap (λ (ws : List ℕ). bit_in ws q) c.as_mut_slice.ensures.value) count
    (c.join-2.ensures.rooms c.place.inside.fd (inr (subst (λ (r : List Bool). HasRoom r c.place.inside.fd) (sym c.into_pages.ensures.rooms) c.place.invariant.given))) (omega (arith, c.join-3.ensures.long, c.place.invariant.bit))
    c.args.self.now c.self.view_is ∙ ap (λ (k : ℕ). insert c.args.self.now k c.args.given) c.place.view_is)
