use Rattle.std.proofs.Common.{◌≡◌, ℕ, suc, ◌-◌, length}
use Rattle.objects.specs.Pieces.{piece_of}
use Rattle.objects.proofs.pieces.Pieces.reach.Given as goal

abbrev pub invariant-loop-self : goal.invariant-loop-self
invariant-loop-self l = (number : ℕ) → piece_of l.self-inside.groups.items number ≡ piece_of l.fn.self number

abbrev pub decreases-loop-self : goal.decreases-loop-self
decreases-loop-self l = suc l.index - length l.self-inside.groups.items
