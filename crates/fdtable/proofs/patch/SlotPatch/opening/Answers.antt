use Rattle.std.proofs.Common.{◌≡◌, ◌≢◌, ℕ, List, [], Some, None, nat_cmp, length, sym, ap, subst, ◌∙◌, arith}
use Rattle.model.specs.FiniteMap.{FinMap, get}
use Rattle.model.specs.State.{mapped}
use Rattle.fdtable.specs.Pages.{HasRoom, Paged}
use Rattle.fdtable.specs.Patches.{IsPatch}
use Rattle.fdtable.specs.Words.{bit_in}
use Rattle.fdtable.proofs.Bits.{bit_past}
use Rattle.fdtable.proofs.Patched.{given_notes, given_patch}
use Rattle.fdtable.proofs.patch.SlotPatch.opening.Goals as goal

pub invariant_of-result : goal.invariant_of-result
invariant_of-result c =
    let given : Paged = c.in_ok-try_clone.field-0 in
    let closed : List ℕ = c.reach.new.words.items in
    let bare : (i : ℕ) → bit_in closed i ≡ 0 = λ i. c.reach.ensures.bits i ∙ ap (λ (ws : List ℕ). bit_in ws i) c.new-closed.ensures.items ∙ bit_past [] i (omega arith) in
    let so : IsPatch given closed = given_patch given closed bare
    (λ f some. (let is_open : get c.table.inside.pages.slots f ≢ None = λ none. some (ap (λ (p : Paged). get p.slots f) c.in_ok-try_clone.ensures ∙ none) in (
      subst (λ (p : Paged). HasRoom p.rooms f) (sym c.in_ok-try_clone.ensures) (c.end.ensures.room f is_open),
      omega (arith, c.end.ensures.open f is_open, c.in_ok-reach.ensures.ok, c.saturating_sub.ensures),
    )))
    (omega (arith, c.reach.ensures.few, ap length c.new-closed.ensures.items, c.end.ensures.small, c.saturating_sub.ensures)) in
    so

pub returns : goal.returns
returns c f =
    let given : Paged = c.in_ok-try_clone.field-0 in
    let closed : List ℕ = c.reach.new.words.items in
    let bare : (i : ℕ) → bit_in closed i ≡ 0 = λ i. c.reach.ensures.bits i ∙ ap (λ (ws : List ℕ). bit_in ws i) c.new-closed.ensures.items ∙ bit_past [] i (omega arith) in
    let so : IsPatch given closed = given_patch given closed bare
    (λ f some. (let is_open : get c.table.inside.pages.slots f ≢ None = λ none. some (ap (λ (p : Paged). get p.slots f) c.in_ok-try_clone.ensures ∙ none) in (
      subst (λ (p : Paged). HasRoom p.rooms f) (sym c.in_ok-try_clone.ensures) (c.end.ensures.room f is_open),
      omega (arith, c.end.ensures.open f is_open, c.in_ok-reach.ensures.ok, c.saturating_sub.ensures),
    )))
    (omega (arith, c.reach.ensures.few, ap length c.new-closed.ensures.items, c.end.ensures.small, c.saturating_sub.ensures)) in
    given_notes given closed bare so f ∙ ap (λ (p : Paged). mapped Some (get p.slots f)) c.in_ok-try_clone.ensures ∙ ap (λ (m : FinMap nat_cmp ℕ). mapped Some (get m f)) c.table.view_is
