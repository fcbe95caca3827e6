-- Touches with their processes.
use Rattle.std.specs.Prelude.{ℕ}
use Rattle.model.specs.Steps.{Touch}
use Rattle.std.specs.Cmp.{IsTotalOrder}
use Rattle.std.proofs.lemmas.Cmp.{nat_list_cmp_total, on_total}
use Rattle.records.specs.Codes.{code, touch_cmp}
use Rattle.records.specs.declared.mark.Mark.{Mark}

abbrev pub mark_of : ℕ → Touch → Mark
mark_of pid t = record { touch = t; pid = pid }

pub touch_cmp_total : IsTotalOrder touch_cmp
unfolding touch_cmp
touch_cmp_total = on_total code nat_list_cmp_total
