-- Rows of blocks that are holes, and of such that are none.
use Rattle.std.specs.Prelude.{Bool, true, false, not}

-- whether a block ends such a row, by whether it is all zero
abbrev pub ends_row : Bool → Bool → Bool
ends_row true zero = not zero
ends_row false zero = zero
