use Rattle.std.proofs.Common.{◌≡◌, ◌++◌, length, take}
use Rattle.std.specs.List.{flat_map, All}
use Rattle.entry_codec.specs.Parts.{size_bytes}
use Rattle.entry_codec.specs.Entries.{entry_bytes, IsEntry}
use Rattle.entry_codec.proofs.entries.put_each.Given as goal

-- as many are put as the loop has passed, and each fits
abbrev pub invariant-loop-entry : goal.invariant-loop-entry
invariant-loop-entry l = record {
  put : l.out.items ≡ (l.fn.out.items ++ size_bytes (length l.entries)) ++ flat_map entry_bytes (take l.entry-index l.entries);
  fits : All IsEntry (take l.entry-index l.entries);
}
