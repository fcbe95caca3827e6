use Rattle.std.proofs.Common.{ℕ, Option, sym, ap, ◌∙◌, if◌then◌else◌}
use Rattle.std.proofs.lemmas.Int.{to_z-of_z}
use Rattle.model.specs.Plan.{EINVAL, or_refuse}
use Rattle.model.specs.Plans.{unchanged, offset_named, write_from}
use Rattle.model.specs.Calls.{Count}
use Rattle.walk.proofs.Laws.{goes, stops, via}
use Rattle.calls.proofs.at_offset.pwrite.Goals as goal

pub returns-in_err-it : goal.returns-in_err-it
returns-in_err-it g c = stops _ c.from_residual.ensures.1 (c.in_err-it.ensures _)

pub returns-in_err-refuse_if : goal.returns-in_err-refuse_if
returns-in_err-refuse_if g c = goes _ (c.in_ok-it.ensures _) (stops _ c.from_residual-in_err-refuse_if.ensures.1 (c.in_err-refuse_if.ensures _ _))

pub returns-in_err-must_not_be_pipe : goal.returns-in_err-must_not_be_pipe
returns-in_err-must_not_be_pipe g c = goes _ (c.in_ok-it.ensures _) (goes _ (c.in_ok-refuse_if.ensures _ _) (stops _ c.from_residual-in_err-must_not_be_pipe.ensures.1 (c.in_err-must_not_be_pipe.ensures _ _)))

pub returns-in_err-offset : goal.returns-in_err-offset
returns-in_err-offset g c = goes _ (c.in_ok-it.ensures _) (goes _ (c.in_ok-refuse_if.ensures _ _) (goes _ (c.in_ok-must_not_be_pipe.ensures _ _) (stops _ c.from_residual-in_err-offset.ensures.1 (via (ap (λ (at : Option ℕ). or_refuse EINVAL at) (ap offset_named (sym (to_z-of_z _ _ c.ranges.offset)) ∙ sym c.offset_named.ensures)) (c.in_err-offset.ensures _ _)))))

pub returns-then-is_empty : goal.returns-then-is_empty
returns-then-is_empty g c = goes _ (c.in_ok-it.ensures _) (goes _ (c.in_ok-refuse_if.ensures _ _) (goes _ (c.in_ok-must_not_be_pipe.ensures _ _) (goes _ (via (ap (λ (at : Option ℕ). or_refuse EINVAL at) (ap offset_named (sym (to_z-of_z _ _ c.ranges.offset)) ∙ sym c.offset_named.ensures)) (c.in_ok-offset.ensures _ _)) (via (ap (λ b. if b then unchanged (Count 0) else write_from (g.L.Look.state c.args.look.now).bounds.file_bytes c.in_ok-it.it.inode c.in_ok-offset.offset c.args.bytes.now) (sym c.is_empty.ensures ∙ c.if-is_empty.true)) (c.unchanged.ensures _ _)))))

pub returns-else-is_empty : goal.returns-else-is_empty
returns-else-is_empty g c = goes _ (c.in_ok-it.ensures _) (goes _ (c.in_ok-refuse_if.ensures _ _) (goes _ (c.in_ok-must_not_be_pipe.ensures _ _) (goes _ (via (ap (λ (at : Option ℕ). or_refuse EINVAL at) (ap offset_named (sym (to_z-of_z _ _ c.ranges.offset)) ∙ sym c.offset_named.ensures)) (c.in_ok-offset.ensures _ _)) (via (ap (λ b. if b then unchanged (Count 0) else write_from (g.L.Look.state c.args.look.now).bounds.file_bytes c.in_ok-it.it.inode c.in_ok-offset.offset c.args.bytes.now) (sym c.is_empty.ensures ∙ c.if-is_empty.false)) (via (ap (λ m. write_from m c.in_ok-it.it.inode c.in_ok-offset.offset c.args.bytes.now) (sym c.largest.ensures)) c.write_from.ensures)))))
