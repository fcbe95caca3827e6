use Rattle.std.proofs.Common.{◌≡◌, ◌+◌, ◌*◌, ◌/◌, ℕ, None, nat_cmp, refl, sym, ap, ap₂, ◌∙◌, arith}
use Rattle.model.specs.FiniteMap.{FinMap, get}
use Rattle.fdtable.specs.Patches.{or_before}
use Rattle.fdtable.proofs.Laws.{none_unless}
use Rattle.fdtable.proofs.Bits.{found_first, found_next, none_first, none_next}
use Rattle.fdtable.proofs.Searched.{below_taken, laid_free, taken, taken_below}
use Rattle.fdtable.proofs.patch.SlotPatch.free_over.Goals as goal

pub returns-in-Some : goal.returns-in-Some
returns-in-Some c laid is =
    let at = λ (f : ℕ). or_before (get c.args.self.now f) (get c.args.table.now f) in
    laid_free c.args.self.now c.args.table.now laid c.args.first (c.args.first / 64 * 64 + c.in-Some.bit) is
    (found_first (taken at) c.args.first c.word_over.result c.filled_below-word.result c.word_over.ensures c.filled_below-word.ensures.below c.filled_below-word.ensures.others c.in-Some.bit
    (c.args.first / 64 * 64 + c.in-Some.bit) c.in-Some.ensures refl)

pub loop-index-init : goal.loop-index-init
loop-index-init c =
    let at = λ (f : ℕ). or_before (get c.args.self.now f) (get c.args.table.now f) in
    taken_below at c.args.first (64 * (c.args.first / 64 + 1))
    (none_first (taken at) c.args.first c.word_over.result c.filled_below-word.result c.word_over.ensures c.filled_below-word.ensures.below c.filled_below-word.ensures.others c.in_default.ensures)

pub returns-in-Some-lowest_clear : goal.returns-in-Some-lowest_clear
returns-in-Some-lowest_clear c laid is =
    let at = λ (f : ℕ). or_before (get c.args.self.now f) (get c.args.table.now f) in
    laid_free c.args.self.now c.args.table.now laid c.args.first (c.loop-index.index * 64 + c.in-Some-lowest_clear.bit) is
    (found_next (taken at) c.args.first c.loop-index.index c.word_over-in-loop-index.result c.word_over-in-loop-index.ensures
    (below_taken at c.args.first (64 * c.loop-index.index) c.loop-index.invariant)
    c.in-Some-lowest_clear.bit (c.loop-index.index * 64 + c.in-Some-lowest_clear.bit) (omega arith) c.in-Some-lowest_clear.ensures refl)

pub loop-index-preserved : goal.loop-index-preserved
loop-index-preserved c =
    let at = λ (f : ℕ). or_before (get c.args.self.now f) (get c.args.table.now f) in
    taken_below at c.args.first (64 * (c.loop-index.index + 1))
    (none_next (taken at) c.args.first c.loop-index.index c.word_over-in-loop-index.result c.word_over-in-loop-index.ensures
    (below_taken at c.args.first (64 * c.loop-index.index) c.loop-index.invariant) c.in_default-lowest_clear.ensures)

pub returns : goal.returns
returns c laid is =
    let place : ℕ = c.max.result * 64 in
    let unnoted : get c.args.self.now place ≡ None = none_unless (get c.args.self.now place) (λ some. (let low = c.pages.ensures.noted place some in omega (arith, low, c.max.ensures, c.max-pages.ensures))) in
    let closed : get c.args.table.now place ≡ None = none_unless (get c.args.table.now place) (λ some. (
    let low = c.end.ensures.open place (λ none. some (ap (λ (m : FinMap nat_cmp ℕ). get m place) (sym c.table.view_is) ∙ none)) in
    omega (arith, low, c.end.ensures.whole, c.max.ensures, c.max-pages.ensures))) in (
      omega (arith, c.max.ensures),
      is place ∙ ap₂ or_before unnoted closed,
      λ g from low none. c.loop-index.invariant g from (omega (arith, low, c.max.ensures)) (sym (is g) ∙ none),
    )
