use Rattle.std.proofs.Common.{sym}
use Rattle.std.proofs.Common.{[], ◌∷◌, ◌+◌, length, take, ap, ◌∙◌}
use Rattle.model.specs.Plans.{changed}
use Rattle.model.specs.Calls.{Count}
use Rattle.model.specs.Changes.{Put_bytes, Set_offset}
use Rattle.walk.proofs.Laws.{goes, stops, via}
use Rattle.calls.proofs.files.write_file.Goals as goal

pub returns-in_err-offset : goal.returns-in_err-offset
returns-in_err-offset g c = stops _ c.from_residual.ensures.1 c.in_err-offset.ensures

pub returns-in_err-must_be_below : goal.returns-in_err-must_be_below
returns-in_err-must_be_below g c = goes _ c.in_ok-offset.ensures (stops _ c.from_residual-in_err-must_be_below.ensures.1 (c.in_err-must_be_below.ensures.value _ _))

pub returns-in_err-size : goal.returns-in_err-size
returns-in_err-size g c = goes _ c.in_ok-offset.ensures (goes _ (c.in_ok-must_be_below.ensures.value _ _) (stops _ c.from_residual-in_err-size.ensures.1 c.in_err-size.ensures))

pub returns : goal.returns
returns g c = goes _ c.in_ok-offset.ensures (goes _ (c.in_ok-must_be_below.ensures.value _ _) (goes _ c.in_ok-size.ensures (via (ap (λ kept. changed (Count (length kept)) (Put_bytes c.args.it.inode c.in_ok-offset.offset kept c.in_ok-size.size ∷ Set_offset c.args.it.description (c.in_ok-offset.offset + length kept) ∷ [])) (ap (λ n. take n c.args.bytes.now) (sym c.room.ensures.is) ∙ sym c.in_ok-kept.ensures)) (c.put.ensures _ _))))
