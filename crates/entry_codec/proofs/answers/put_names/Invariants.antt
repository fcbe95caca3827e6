use Rattle.std.proofs.Common.{◌≡◌, ◌++◌, length, take}
use Rattle.std.specs.List.{flat_map, All}
use Rattle.entry_codec.specs.Parts.{size_bytes, text_bytes, IsText}
use Rattle.entry_codec.proofs.answers.put_names.Given as goal

-- as many are put as the loop has passed, and each fits
abbrev pub invariant-loop-name : goal.invariant-loop-name
invariant-loop-name l = record {
  put : l.out.items ≡ (l.fn.out.items ++ size_bytes (length l.names)) ++ flat_map text_bytes (take l.name-index l.names);
  fits : All IsText (take l.name-index l.names);
}
