use Rattle.std.proofs.Common.{ℕ, ◌+◌, Option, sym, ap, ◌∙◌, nat_lt}
use Rattle.std.proofs.lemmas.Int.{to_z-of_z}
use Rattle.model.specs.Plan.{EFBIG, EINVAL, or_refuse, refuse_if}
use Rattle.model.specs.Plans.{length_named, offset_named}
use Rattle.walk.proofs.Laws.{goes, stops, via}
use Rattle.calls.proofs.ranges.fallocate.Goals as goal

pub returns-in_err-it : goal.returns-in_err-it
returns-in_err-it g c = stops _ c.from_residual.ensures.1 (c.in_err-it.ensures _)

pub returns-in_err-offset : goal.returns-in_err-offset
returns-in_err-offset g c = goes _ (c.in_ok-it.ensures _) (stops _ c.from_residual-in_err-offset.ensures.1 (via (ap (λ (at : Option ℕ). or_refuse EINVAL at) (ap offset_named (sym (to_z-of_z _ _ c.ranges.offset)) ∙ sym c.offset_named.ensures)) (c.in_err-offset.ensures _ _)))

pub returns-in_err-count : goal.returns-in_err-count
returns-in_err-count g c = goes _ (c.in_ok-it.ensures _) (goes _ (via (ap (λ (at : Option ℕ). or_refuse EINVAL at) (ap offset_named (sym (to_z-of_z _ _ c.ranges.offset)) ∙ sym c.offset_named.ensures)) (c.in_ok-offset.ensures _ _)) (stops _ c.from_residual-in_err-count.ensures.1 (via (ap (λ (count : Option ℕ). or_refuse EINVAL count) (ap length_named (sym (to_z-of_z _ _ c.ranges.length)) ∙ sym c.length_named.ensures)) (c.in_err-count.ensures _ _))))

pub returns-in_err-refuse_if : goal.returns-in_err-refuse_if
returns-in_err-refuse_if g c = goes _ (c.in_ok-it.ensures _) (goes _ (via (ap (λ (at : Option ℕ). or_refuse EINVAL at) (ap offset_named (sym (to_z-of_z _ _ c.ranges.offset)) ∙ sym c.offset_named.ensures)) (c.in_ok-offset.ensures _ _)) (goes _ (via (ap (λ (count : Option ℕ). or_refuse EINVAL count) (ap length_named (sym (to_z-of_z _ _ c.ranges.length)) ∙ sym c.length_named.ensures)) (c.in_ok-count.ensures _ _)) (stops _ c.from_residual-in_err-refuse_if.ensures.1 (c.in_err-refuse_if.ensures _ _))))

pub returns-in_err-must_not_be_pipe : goal.returns-in_err-must_not_be_pipe
returns-in_err-must_not_be_pipe g c = goes _ (c.in_ok-it.ensures _) (goes _ (via (ap (λ (at : Option ℕ). or_refuse EINVAL at) (ap offset_named (sym (to_z-of_z _ _ c.ranges.offset)) ∙ sym c.offset_named.ensures)) (c.in_ok-offset.ensures _ _)) (goes _ (via (ap (λ (count : Option ℕ). or_refuse EINVAL count) (ap length_named (sym (to_z-of_z _ _ c.ranges.length)) ∙ sym c.length_named.ensures)) (c.in_ok-count.ensures _ _)) (goes _ (c.in_ok-refuse_if.ensures _ _) (stops _ c.from_residual-in_err-must_not_be_pipe.ensures.1 (c.in_err-must_not_be_pipe.ensures _ _)))))

pub returns-in_err-must_end_within : goal.returns-in_err-must_end_within
returns-in_err-must_end_within g c = goes _ (c.in_ok-it.ensures _) (goes _ (via (ap (λ (at : Option ℕ). or_refuse EINVAL at) (ap offset_named (sym (to_z-of_z _ _ c.ranges.offset)) ∙ sym c.offset_named.ensures)) (c.in_ok-offset.ensures _ _)) (goes _ (via (ap (λ (count : Option ℕ). or_refuse EINVAL count) (ap length_named (sym (to_z-of_z _ _ c.ranges.length)) ∙ sym c.length_named.ensures)) (c.in_ok-count.ensures _ _)) (goes _ (c.in_ok-refuse_if.ensures _ _) (goes _ (c.in_ok-must_not_be_pipe.ensures _ _) (stops _ c.from_residual-in_err-must_end_within.ensures.1 (via (ap (λ m. refuse_if (nat_lt m (c.in_ok-offset.offset + c.in_ok-count.count)) EFBIG) (sym c.largest.ensures)) (c.in_err-must_end_within.ensures.value _ _)))))))

pub returns : goal.returns
returns g c = goes _ (c.in_ok-it.ensures _) (goes _ (via (ap (λ (at : Option ℕ). or_refuse EINVAL at) (ap offset_named (sym (to_z-of_z _ _ c.ranges.offset)) ∙ sym c.offset_named.ensures)) (c.in_ok-offset.ensures _ _)) (goes _ (via (ap (λ (count : Option ℕ). or_refuse EINVAL count) (ap length_named (sym (to_z-of_z _ _ c.ranges.length)) ∙ sym c.length_named.ensures)) (c.in_ok-count.ensures _ _)) (goes _ (c.in_ok-refuse_if.ensures _ _) (goes _ (c.in_ok-must_not_be_pipe.ensures _ _) (goes _ (via (ap (λ m. refuse_if (nat_lt m (c.in_ok-offset.offset + c.in_ok-count.count)) EFBIG) (sym c.largest.ensures)) (c.in_ok-must_end_within.ensures.value _ _)) c.spaced.ensures)))))
