use Rattle.std.proofs.Common.{not, ◌&&◌, min, nat_le, ap, sym, ◌∙◌}
use Rattle.model.specs.Plan.{ENXIO, Give, Pass_blocks, ask, refuse_if}
use Rattle.walk.proofs.Laws.{gives, goes, stops, via}
use Rattle.calls.proofs.seek.found_from.Goals as goal

pub returns-in_err-size : goal.returns-in_err-size
returns-in_err-size g c = stops _ c.from_residual.ensures.1 c.in_err-size.ensures

pub returns-in_err-must_be_below : goal.returns-in_err-must_be_below
returns-in_err-must_be_below g c = goes _ c.in_ok-size.ensures (stops _ c.from_residual-in_err-must_be_below.ensures.1 (c.in_err-must_be_below.ensures.value _ _))

pub returns-in_err-passed : goal.returns-in_err-passed
returns-in_err-passed g c = goes _ c.in_ok-size.ensures (goes _ (c.in_ok-must_be_below.ensures.value _ _) (stops _ c.from_residual-in_err-passed.ensures.1 (via (λ i. ask (Pass_blocks (not c.args.holes) c.args.file (sym c.row.ensures.first i) (sym c.row.ensures.count i))) c.in_err-passed.ensures.value)))

pub returns-in_err-must_not_lack_data : goal.returns-in_err-must_not_lack_data
returns-in_err-must_not_lack_data g c = goes _ c.in_ok-size.ensures (goes _ (c.in_ok-must_be_below.ensures.value _ _) (goes _ (via (λ i. ask (Pass_blocks (not c.args.holes) c.args.file (sym c.row.ensures.first i) (sym c.row.ensures.count i))) c.in_ok-passed.ensures.value) (stops _ c.from_residual-in_err-must_not_lack_data.ensures.1 (via (ap (λ place. refuse_if (not c.args.holes && nat_le c.in_ok-size.size place) ENXIO) (sym c.behind_blocks-place.ensures)) (c.in_err-must_not_lack_data.ensures _ _)))))

pub returns : goal.returns
returns g c = goes _ c.in_ok-size.ensures (goes _ (c.in_ok-must_be_below.ensures.value _ _) (goes _ (via (λ i. ask (Pass_blocks (not c.args.holes) c.args.file (sym c.row.ensures.first i) (sym c.row.ensures.count i))) c.in_ok-passed.ensures.value) (goes _ (via (ap (λ place. refuse_if (not c.args.holes && nat_le c.in_ok-size.size place) ENXIO) (sym c.behind_blocks-place.ensures)) (c.in_ok-must_not_lack_data.ensures _ _)) (via (ap Give (ap (min c.in_ok-size.size) (sym c.behind_blocks-place.ensures) ∙ sym c.within.ensures)) gives))))
