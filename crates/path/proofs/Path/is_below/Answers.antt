use Rattle.std.proofs.Common.{◌≡◌, suc, ◌<◌, true, false, ◌&&◌, length, get_or, drop, sym, ap, ◌∙◌, add-one, arith}
use Rattle.model.specs.Paths.{is_below, same_name}
use Rattle.path.proofs.Below.{below_rest, below_none, below_next}
use Rattle.path.proofs.Path.is_below.Goals as goal

pub returns-then-i-above : goal.returns-then-i-above
returns-then-i-above c = rw (← c.components-above.ensures, ← c.components-below.ensures) (sym (c.loop-i.invariant.rest ∙ below_rest _ _ _ c.if-i-above.true c.loop-i-test.true))

pub returns-then-not-is_same : goal.returns-then-not-is_same
returns-then-not-is_same c =
    let above = c.components-above.result.now in
    let below = c.components-below.result.now in
    let differ : same_name (get_or above c.loop-i.i c.index-above-i.result) (get_or below c.loop-i.i c.index-below-i.result) ≡ false = cc in
    let within : c.loop-i.i < length above = omega arith in
    rw (← c.components-above.ensures, ← c.components-below.ensures) (sym (c.loop-i.invariant.rest ∙ below_next _ _ _ c.index-above-i.result c.index-below-i.result within c.loop-i-test.true ∙ ap (λ b. b && is_below (drop (suc c.loop-i.i) above) (drop (suc c.loop-i.i) below)) differ))

pub loop-i-preserved : goal.loop-i-preserved
loop-i-preserved c =
    let above = c.components-above.result.now in
    let below = c.components-below.result.now in
    let same : same_name (get_or above c.loop-i.i c.index-above-i.result) (get_or below c.loop-i.i c.index-below-i.result) ≡ true = cc in
    let within : c.loop-i.i < length above = omega arith in
    record {
      within = omega arith;
      rest = rw add-one (c.loop-i.invariant.rest ∙ below_next _ _ _ c.index-above-i.result c.index-below-i.result within c.loop-i-test.true ∙ ap (λ b. b && is_below (drop (suc c.loop-i.i) above) (drop (suc c.loop-i.i) below)) same);
    }

pub returns : goal.returns
returns c = rw (← c.components-above.ensures, ← c.components-below.ensures) (sym (c.loop-i.invariant.rest ∙ below_none _ _ _ c.loop-i.invariant.within (omega arith)))
