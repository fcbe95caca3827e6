use Rattle.std.proofs.Common.{◌≡◌, take}
use Rattle.ids.proofs.bytes.names_copied.Given as goal

-- as many names are copied as the loop has passed
abbrev pub invariant-loop-name : goal.invariant-loop-name
invariant-loop-name l = (l.name-items ≡ l.names.items) × (l.copies.items ≡ take l.name-index l.name-items)
