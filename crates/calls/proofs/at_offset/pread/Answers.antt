use Rattle.std.proofs.Common.{ℕ, [], Option, sym, ap, ◌∙◌, ◌==◌, if◌then◌else◌}
use Rattle.std.proofs.lemmas.Bool.{ne_eqb}
use Rattle.std.proofs.lemmas.Int.{to_z-of_z}
use Rattle.model.specs.Plan.{EINVAL, or_refuse}
use Rattle.model.specs.Plans.{unchanged, offset_named, read_from}
use Rattle.model.specs.Calls.{Bytes}
use Rattle.walk.proofs.Laws.{goes, stops, via}
use Rattle.calls.proofs.at_offset.pread.Goals as goal

pub returns-in_err-it : goal.returns-in_err-it
returns-in_err-it g c = stops _ c.from_residual.ensures.1 (c.in_err-it.ensures _)

pub returns-in_err-refuse_if : goal.returns-in_err-refuse_if
returns-in_err-refuse_if g c = goes _ (c.in_ok-it.ensures _) (stops _ c.from_residual-in_err-refuse_if.ensures.1 (c.in_err-refuse_if.ensures _ _))

pub returns-in_err-must_not_be_pipe : goal.returns-in_err-must_not_be_pipe
returns-in_err-must_not_be_pipe g c = goes _ (c.in_ok-it.ensures _) (goes _ (c.in_ok-refuse_if.ensures _ _) (stops _ c.from_residual-in_err-must_not_be_pipe.ensures.1 (c.in_err-must_not_be_pipe.ensures _ _)))

pub returns-in_err-offset : goal.returns-in_err-offset
returns-in_err-offset g c = goes _ (c.in_ok-it.ensures _) (goes _ (c.in_ok-refuse_if.ensures _ _) (goes _ (c.in_ok-must_not_be_pipe.ensures _ _) (stops _ c.from_residual-in_err-offset.ensures.1 (via (ap (λ (at : Option ℕ). or_refuse EINVAL at) (ap offset_named (sym (to_z-of_z _ _ c.ranges.offset)) ∙ sym c.offset_named.ensures)) (c.in_err-offset.ensures _ _)))))

pub returns-then-count-eq0 : goal.returns-then-count-eq0
returns-then-count-eq0 g c = goes _ (c.in_ok-it.ensures _) (goes _ (c.in_ok-refuse_if.ensures _ _) (goes _ (c.in_ok-must_not_be_pipe.ensures _ _) (goes _ (via (ap (λ (at : Option ℕ). or_refuse EINVAL at) (ap offset_named (sym (to_z-of_z _ _ c.ranges.offset)) ∙ sym c.offset_named.ensures)) (c.in_ok-offset.ensures _ _)) (via (ap (λ b. if b then unchanged (Bytes []) else read_from c.in_ok-it.it.inode c.in_ok-offset.offset c.args.count) (ap (λ n. n == 0) c.if-count-eq0.true)) (via (ap (λ bytes. unchanged (Bytes bytes)) (sym c.no_bytes.ensures)) (c.unchanged.ensures _ _))))))

pub returns-else-count-eq0 : goal.returns-else-count-eq0
returns-else-count-eq0 g c = goes _ (c.in_ok-it.ensures _) (goes _ (c.in_ok-refuse_if.ensures _ _) (goes _ (c.in_ok-must_not_be_pipe.ensures _ _) (goes _ (via (ap (λ (at : Option ℕ). or_refuse EINVAL at) (ap offset_named (sym (to_z-of_z _ _ c.ranges.offset)) ∙ sym c.offset_named.ensures)) (c.in_ok-offset.ensures _ _)) (via (ap (λ b. if b then unchanged (Bytes []) else read_from c.in_ok-it.it.inode c.in_ok-offset.offset c.args.count) (ne_eqb _ _ c.if-count-eq0.false)) c.read_from.ensures))))
