use Rattle.std.proofs.Common.{◌≡◌, length, eqb}
use Rattle.std.specs.List.{slice_split}
use Rattle.ids.specs.Flags.{open_bits}
use Rattle.script.specs.Flags.{flags_after}
use Rattle.script.proofs.flags.flags_in.Given as goal

abbrev pub invariant-loop-name : goal.invariant-loop-name
invariant-loop-name l = flags_after 0 (slice_split (λ b. eqb b 44) l.fn.word) ≡ flags_after (open_bits l.flags) l.names

abbrev pub decreases-loop-name : goal.decreases-loop-name
decreases-loop-name l = length l.names
