use Rattle.std.proofs.Common.{◌≡◌, ◌++◌, ◌<◌, ◌^◌, length, take}
use Rattle.std.specs.List.{flat_map, All}
use Rattle.entry_codec.specs.Parts.{size_bytes, u64_bytes}
use Rattle.entry_codec.proofs.entries.put_nums.Given as goal

-- as many are put as the loop has passed, and each fits
abbrev pub invariant-loop-num : goal.invariant-loop-num
invariant-loop-num l = record {
  put : l.out.items ≡ (l.fn.out.items ++ size_bytes (length l.nums)) ++ flat_map u64_bytes (take l.num-index l.nums);
  fits : All (λ n. n < 2 ^ 64) (take l.num-index l.nums);
}
