use Rattle.std.proofs.Common.{◌≡◌}
use Rattle.store_stream.proofs.stream.Stream.take_part.Given as goal

-- no answer so far was refused memory
abbrev pub invariant-loop-byte : goal.invariant-loop-byte
invariant-loop-byte g l = l.answers.failures ≡ 0
