use Rattle.std.proofs.Common.{◌≡◌, ◌≤◌, ◌-◌, length}
use Rattle.std.specs.Io.KnownBytes.{prepend_known}
use Rattle.device.proofs.source.read_all.Given as goal

-- What was read and what is still to come make the bytes.
abbrev pub invariant-loop-buffer : goal.invariant-loop-buffer
invariant-loop-buffer g l =
    (g.S.Source.remaining l.fn.source ≡ prepend_known l.bytes.items (g.S.Source.remaining l.source))
    × (length l.bytes.items ≤ l.most)
    × (g.S.Source.failures l.source ≡ g.S.Source.failures l.fn.source)

abbrev pub decreases-loop-buffer : goal.decreases-loop-buffer
decreases-loop-buffer g l = l.most - length l.bytes.items
