use Rattle.std.proofs.Common.{[], ◌∷◌, length, take, sym, ap, ◌∙◌}
use Rattle.model.specs.Plans.{changed}
use Rattle.model.specs.Calls.{Count}
use Rattle.model.specs.Changes.{Put_bytes}
use Rattle.walk.proofs.Laws.{goes, stops, via}
use Rattle.calls.proofs.at_offset.write_from.Goals as goal

pub returns-in_err-must_be_below : goal.returns-in_err-must_be_below
returns-in_err-must_be_below g c = stops _ c.from_residual.ensures.1 (c.in_err-must_be_below.ensures.value _ _)

pub returns-in_err-size : goal.returns-in_err-size
returns-in_err-size g c = goes _ (c.in_ok-must_be_below.ensures.value _ _) (stops _ c.from_residual-in_err-size.ensures.1 c.in_err-size.ensures)

pub returns : goal.returns
returns g c = goes _ (c.in_ok-must_be_below.ensures.value _ _) (goes _ c.in_ok-size.ensures (via (ap (λ kept. changed (Count (length kept)) (Put_bytes c.args.it.inode c.args.offset kept c.in_ok-size.size ∷ [])) (ap (λ n. take n c.args.bytes.now) (sym c.room.ensures.is) ∙ sym c.in_ok-kept.ensures)) (c.put.ensures _ _)))
