use Rattle.std.proofs.Common.{◌≡◌, ◌++◌, ◌<◌, ◌^◌, length, take}
use Rattle.std.specs.List.{flat_map, All}
use Rattle.entry_codec.specs.Parts.{size_bytes, u32_bytes}
use Rattle.entry_codec.proofs.entries.put_pids.Given as goal

-- as many are put as the loop has passed, and each fits
abbrev pub invariant-loop-pid : goal.invariant-loop-pid
invariant-loop-pid l = record {
  put : l.out.items ≡ (l.fn.out.items ++ size_bytes (length l.pids)) ++ flat_map u32_bytes (take l.pid-index l.pids);
  fits : All (λ n. n < 2 ^ 32) (take l.pid-index l.pids);
}
