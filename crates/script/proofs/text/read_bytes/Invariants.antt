use Rattle.std.proofs.Common.{◌≡◌, length}
use Rattle.script.specs.Texts.{bytes_after}
use Rattle.script.proofs.text.read_bytes.Given as goal

abbrev pub invariant-loop-rest : goal.invariant-loop-rest
invariant-loop-rest l = bytes_after l.initial.bytes.items l.fn.text ≡ bytes_after l.bytes.items l.rest

abbrev pub decreases-loop-rest : goal.decreases-loop-rest
decreases-loop-rest l = length l.rest
