use Rattle.std.proofs.Common.{◌≡◌, ◌+◌, ℕ, Option, None, get_or, ap, ◌∙◌, arith}
use Rattle.std.specs.Option.{unwrap_or}
use Rattle.std.proofs.lemmas.List.{get_or_read}
use Rattle.objects.proofs.Overlays.{overlaid_more}
use Rattle.objects.proofs.slices.lay.Goals as goal

pub loop-i-preserved : goal.loop-i-preserved
loop-i-preserved c =
    let i : ℕ = c.loop-i.i in
    let at : c.index-cells-i.result ≡ get_or c.args.cells.now i None = get_or_read c.args.cells.now i c.index-cells-i.result c.loop-i-test.true c.index-cells-i.is None in
    let is : c.over.result ≡ unwrap_or (get_or c.args.cells.now i None) (get_or c.loop-i.out (c.args.offset + i) 0) = c.over.ensures ∙ ap (λ (o : Option ℕ). unwrap_or o (get_or c.loop-i.out (c.args.offset + i) 0)) at in
    overlaid_more i c.args.offset c.args.cells.now c.args.out.now c.loop-i.out c.over.result (omega (arith, c.loop-i.invariant.len)) is c.loop-i.invariant
