use Rattle.std.proofs.Common.{◌+◌, ◌*◌, ◌/◌, ◌<◌, ◌^◌, ℕ, length, refl, arith}
use Rattle.std.specs.Int.{bit_not}
use Rattle.model.specs.FiniteMap.{get}
use Rattle.ids.specs.declared.limits.TheConstants.{DESCRIPTORS}
use Rattle.fdtable.proofs.Bits.{IsFound, found_first, found_next, none_first, none_next}
use Rattle.fdtable.proofs.Paged.{seen_low, seen_small}
use Rattle.fdtable.proofs.Searched.{below_untaken, none_behind, shows_untaken, taken_found, untaken, untaken_below}
use Rattle.fdtable.proofs.pages.Pages.open_from.Goals as goal
use Rattle.fdtable.proofs.pages.Pages.open_from.Goals.{In-Some, In-Some-lowest_clear}
use mir.Syntax.{w64}

found : (c : In-Some) → IsFound (untaken (get c.args.self.now.slots)) c.args.first (c.args.first / 64 * 64 + c.in-Some.bit)
found c =
    let small : c.word.result < 2 ^ 64 = omega arith in
    found_first (untaken (get c.args.self.now.slots)) c.args.first (bit_not w64 c.word.result) c.filled_below-word.result
    (shows_untaken (get c.args.self.now.slots) (c.args.first / 64) c.word.result small c.word.ensures)
    c.filled_below-word.ensures.below c.filled_below-word.ensures.others c.in-Some.bit (c.args.first / 64 * 64 + c.in-Some.bit) c.in-Some.ensures refl

found_low : (c : In-Some) → c.args.first / 64 * 64 + c.in-Some.bit < DESCRIPTORS
found_low c =
    let place : ℕ = c.args.first / 64 * 64 + c.in-Some.bit in
    seen_small c.self.inside.each.items c.self.inside.full.items c.self.invariant c.args.self.now c.self.view_is place (taken_found (get c.args.self.now.slots) c.args.first place (found c))

pub overflow_cast-result : goal.overflow_cast-result
overflow_cast-result c = let low = found_low c in omega (arith, low)

pub returns-in-Some-clause-value : goal.returns-in-Some-clause-value
returns-in-Some-clause-value c =
    let place : ℕ = c.args.first / 64 * 64 + c.in-Some.bit in
    ((found c).from, taken_found (get c.args.self.now.slots) c.args.first place (found c), untaken_below (get c.args.self.now.slots) c.args.first place (found c).below)

pub returns-in-Some-clause-small : goal.returns-in-Some-clause-small
returns-in-Some-clause-small c = found_low c

pub loop-index-init : goal.loop-index-init
loop-index-init c =
    let small : c.word.result < 2 ^ 64 = omega arith in
    untaken_below (get c.args.self.now.slots) c.args.first (64 * (c.args.first / 64 + 1))
    (none_first (untaken (get c.args.self.now.slots)) c.args.first (bit_not w64 c.word.result) c.filled_below-word.result
    (shows_untaken (get c.args.self.now.slots) (c.args.first / 64) c.word.result small c.word.ensures)
    c.filled_below-word.ensures.below c.filled_below-word.ensures.others c.in_default.ensures)

found_more : (c : In-Some-lowest_clear) → IsFound (untaken (get c.args.self.now.slots)) c.args.first (c.loop-index.index * 64 + c.in-Some-lowest_clear.bit)
found_more c =
    let small : c.word-in-loop-index.result < 2 ^ 64 = omega arith in
    found_next (untaken (get c.args.self.now.slots)) c.args.first c.loop-index.index (bit_not w64 c.word-in-loop-index.result)
    (shows_untaken (get c.args.self.now.slots) c.loop-index.index c.word-in-loop-index.result small c.word-in-loop-index.ensures)
    (below_untaken (get c.args.self.now.slots) c.args.first (64 * c.loop-index.index) c.loop-index.invariant)
    c.in-Some-lowest_clear.bit (c.loop-index.index * 64 + c.in-Some-lowest_clear.bit) (omega arith) c.in-Some-lowest_clear.ensures refl

more_low : (c : In-Some-lowest_clear) → c.loop-index.index * 64 + c.in-Some-lowest_clear.bit < DESCRIPTORS
more_low c =
    let place : ℕ = c.loop-index.index * 64 + c.in-Some-lowest_clear.bit in
    seen_small c.self.inside.each.items c.self.inside.full.items c.self.invariant c.args.self.now c.self.view_is place (taken_found (get c.args.self.now.slots) c.args.first place (found_more c))

pub overflow_cast-result-in-Some-lowest_clear : goal.overflow_cast-result-in-Some-lowest_clear
overflow_cast-result-in-Some-lowest_clear c = let low = more_low c in omega (arith, low)

pub returns-in-Some-lowest_clear-clause-value : goal.returns-in-Some-lowest_clear-clause-value
returns-in-Some-lowest_clear-clause-value c =
    let place : ℕ = c.loop-index.index * 64 + c.in-Some-lowest_clear.bit in
    ((found_more c).from, taken_found (get c.args.self.now.slots) c.args.first place (found_more c), untaken_below (get c.args.self.now.slots) c.args.first place (found_more c).below)

pub returns-in-Some-lowest_clear-clause-small : goal.returns-in-Some-lowest_clear-clause-small
returns-in-Some-lowest_clear-clause-small c = more_low c

pub loop-index-preserved : goal.loop-index-preserved
loop-index-preserved c =
    let small : c.word-in-loop-index.result < 2 ^ 64 = omega arith in
    untaken_below (get c.args.self.now.slots) c.args.first (64 * (c.loop-index.index + 1))
    (none_next (untaken (get c.args.self.now.slots)) c.args.first c.loop-index.index (bit_not w64 c.word-in-loop-index.result)
    (shows_untaken (get c.args.self.now.slots) c.loop-index.index c.word-in-loop-index.result small c.word-in-loop-index.ensures)
    (below_untaken (get c.args.self.now.slots) c.args.first (64 * c.loop-index.index) c.loop-index.invariant) c.in_default-lowest_clear.ensures)

pub returns-clause-value : goal.returns-clause-value
returns-clause-value c =
    none_behind (get c.args.self.now.slots) c.args.first (length c.self.inside.each.items) c.loop-index.index (omega (arith, c.self.inside.each.ok.0, c.len-pages.ensures)) c.loop-index.invariant
    (seen_low c.self.inside.each.items c.self.inside.full.items c.self.invariant c.args.self.now c.self.view_is)
