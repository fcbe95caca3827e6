use Rattle.std.proofs.Common.{◌≡◌, ◌++◌, ◌<◌, length, take}
use Rattle.std.specs.List.{flat_map, All}
use Rattle.entry_codec.specs.Parts.{u32_bytes}
use Rattle.store_form.specs.Setups.{priority_bytes}
use Rattle.store_form.proofs.put.put_priorities.Given as goal

-- as many are put as the loop has passed, and each fits
abbrev pub invariant-loop-priority : goal.invariant-loop-priority
invariant-loop-priority l = record {
  put : l.out.items ≡ (l.fn.out.items ++ u32_bytes (length l.priorities)) ++ flat_map priority_bytes (take l.priority-index l.priorities);
  fits : All (λ p. p < 8) (take l.priority-index l.priorities);
}
