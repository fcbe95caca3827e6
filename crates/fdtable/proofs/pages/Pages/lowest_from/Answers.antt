use Rattle.std.proofs.Common.{◌+◌, ◌*◌, ◌/◌, List, ℕ, refl, sym, ap, subst, ◌∙◌}
use Rattle.std.specs.Option.{is_some}
use Rattle.model.specs.FiniteMap.{get}
use Rattle.fdtable.specs.Pages.{Paged}
use Rattle.fdtable.specs.Words.{IsLowestClear, as_bit, bit_in}
use Rattle.fdtable.proofs.Bits.{IsFound, found_first, none_first}
use Rattle.fdtable.proofs.Paged.{page_in, seen_word}
use Rattle.fdtable.proofs.Searched.{free_found, not_all, seen_behind, taken, taken_below}
use Rattle.fdtable.proofs.pages.Pages.lowest_from.Goals as goal
use Rattle.fdtable.proofs.pages.Pages.lowest_from.Goals.{In-Some, In-Some-lowest_clear}

found : (c : In-Some) → IsFound (taken (get c.args.self.now.slots)) c.args.first (c.args.first / 64 * 64 + c.in-Some.bit)
found c =
    found_first (taken (get c.args.self.now.slots)) c.args.first c.word.result c.filled_below-word.result c.word.ensures c.filled_below-word.ensures.below c.filled_below-word.ensures.others
    c.in-Some.bit (c.args.first / 64 * 64 + c.in-Some.bit) c.in-Some.ensures refl

pub returns-in-Some-clause-free : goal.returns-in-Some-clause-free
returns-in-Some-clause-free c = free_found (get c.args.self.now.slots) c.args.first (c.args.first / 64 * 64 + c.in-Some.bit) (found c)

pub returns-in-Some-clause-from : goal.returns-in-Some-clause-from
returns-in-Some-clause-from c = (found c).from

pub returns-in-Some-clause-open : goal.returns-in-Some-clause-open
returns-in-Some-clause-open c = taken_below (get c.args.self.now.slots) c.args.first (c.args.first / 64 * 64 + c.in-Some.bit) (found c).below

pub unreachable-requires : goal.unreachable-requires
unreachable-requires c =
    let pages = c.self.inside.each.items in
    let bits = c.self.inside.full.items in
    let index : ℕ = c.clear_from-index.result in
    not_all pages bits index c.word-2.result c.self.invariant (ap (λ (ws : List ℕ). bit_in ws index) (sym c.as_slice.ensures.value) ∙ c.clear_from-index.ensures.clear)
    (λ i low. c.word-2.ensures i low ∙ ap (λ o. as_bit (is_some o)) (sym (seen_word pages bits c.self.invariant c.args.self.now c.self.view_is index i (page_in pages index) low refl)))
    (subst (IsLowestClear c.word-2.result) c.in-None.is c.lowest_clear-2.ensures)

found_more : (c : In-Some-lowest_clear) → IsFound (taken (get c.args.self.now.slots)) c.args.first (c.clear_from-index.result * 64 + c.in-Some-lowest_clear.bit)
found_more c =
    let index : ℕ = c.clear_from-index.result in
    seen_behind c.self.inside.each.items c.self.inside.full.items c.self.invariant c.args.self.now.slots (ap (λ (p : Paged). p.slots) c.self.view_is) c.args.first index c.word-2.result
    (none_first (taken (get c.args.self.now.slots)) c.args.first c.word.result c.filled_below-word.result c.word.ensures c.filled_below-word.ensures.below c.filled_below-word.ensures.others c.in_default.ensures)
    (λ i from low. ap (λ (ws : List ℕ). bit_in ws i) (sym c.as_slice.ensures.value) ∙ c.clear_from-index.ensures.set i from low)
    c.clear_from-index.ensures.from c.word-2.ensures c.in-Some-lowest_clear.bit (index * 64 + c.in-Some-lowest_clear.bit) c.in-Some-lowest_clear.ensures refl

pub returns-clause-open : goal.returns-clause-open
returns-clause-open c = taken_below (get c.args.self.now.slots) c.args.first (c.clear_from-index.result * 64 + c.in-Some-lowest_clear.bit) (found_more c).below
