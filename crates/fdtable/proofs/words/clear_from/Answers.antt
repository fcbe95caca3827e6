use Rattle.std.proofs.Common.{◌+◌, ◌*◌, ◌/◌, refl, arith}
use Rattle.fdtable.specs.Words.{bit_in}
use Rattle.fdtable.proofs.Bits.{IsFound, bit_past, found_first, found_next, none_first, none_next, shows_words, word_shows}
use Rattle.fdtable.proofs.words.clear_from.Goals as goal
use Rattle.fdtable.proofs.words.clear_from.Goals.{In-Some, In-Some-lowest_clear}

found : (c : In-Some) → IsFound (bit_in c.args.words.now) c.args.first (c.args.first / 64 * 64 + c.in-Some.bit)
found c =
    found_first (bit_in c.args.words.now) c.args.first c.word_at.result c.filled_below.result (word_shows c.args.words.now (c.args.first / 64) c.word_at.result c.word_at.ensures)
    c.filled_below.ensures.below c.filled_below.ensures.others c.in-Some.bit (c.args.first / 64 * 64 + c.in-Some.bit) c.in-Some.ensures refl

pub returns-in-Some-clause-clear : goal.returns-in-Some-clause-clear
returns-in-Some-clause-clear c = (found c).clear

pub returns-in-Some-clause-from : goal.returns-in-Some-clause-from
returns-in-Some-clause-from c = (found c).from

pub returns-in-Some-clause-set : goal.returns-in-Some-clause-set
returns-in-Some-clause-set c = (found c).below

pub loop-index-init : goal.loop-index-init
loop-index-init c =
    none_first (bit_in c.args.words.now) c.args.first c.word_at.result c.filled_below.result (word_shows c.args.words.now (c.args.first / 64) c.word_at.result c.word_at.ensures)
    c.filled_below.ensures.below c.filled_below.ensures.others c.in_default.ensures

found_more : (c : In-Some-lowest_clear) → IsFound (bit_in c.args.words.now) c.args.first (c.loop-index.index * 64 + c.in-Some-lowest_clear.bit)
found_more c =
    found_next (bit_in c.args.words.now) c.args.first c.loop-index.index _ (shows_words c.args.words.now c.loop-index.index) c.loop-index.invariant
    c.in-Some-lowest_clear.bit (c.loop-index.index * 64 + c.in-Some-lowest_clear.bit) (omega arith) c.in-Some-lowest_clear.ensures refl

pub returns-in-Some-lowest_clear-clause-clear : goal.returns-in-Some-lowest_clear-clause-clear
returns-in-Some-lowest_clear-clause-clear c = (found_more c).clear

pub returns-in-Some-lowest_clear-clause-from : goal.returns-in-Some-lowest_clear-clause-from
returns-in-Some-lowest_clear-clause-from c = (found_more c).from

pub returns-in-Some-lowest_clear-clause-set : goal.returns-in-Some-lowest_clear-clause-set
returns-in-Some-lowest_clear-clause-set c = (found_more c).below

pub loop-index-preserved : goal.loop-index-preserved
loop-index-preserved c = none_next (bit_in c.args.words.now) c.args.first c.loop-index.index _ (shows_words c.args.words.now c.loop-index.index) c.loop-index.invariant c.in_default-lowest_clear.ensures

pub returns-clause-clear : goal.returns-clause-clear
returns-clause-clear c = bit_past c.args.words.now (c.max.result * 64) (omega (arith, c.max.ensures))

pub returns-clause-set : goal.returns-clause-set
returns-clause-set c i from low = c.loop-index.invariant i from (omega (arith, low, c.max.ensures))
