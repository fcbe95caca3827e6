use Rattle.std.proofs.Common.{◌≡◌, ℕ, suc, ◌-◌, ◌≤◌, length}
use Rattle.objects.specs.Pieces.{piece_in}
use Rattle.objects.specs.declared.group.TheConstants.{GROUP_LEN}
use Rattle.objects.proofs.group.Group.reach.Given as goal

abbrev pub invariant-loop-self : goal.invariant-loop-self
invariant-loop-self l = (length l.self-inside.pieces.items ≤ GROUP_LEN) × ((i : ℕ) → (piece_in l.self-inside.pieces.items i).bytes ≡ (piece_in l.fn.self i).bytes) × ((i : ℕ) → (piece_in l.fn.self i).room ≤ (piece_in l.self-inside.pieces.items i).room)

abbrev pub decreases-loop-self : goal.decreases-loop-self
decreases-loop-self l = suc l.index - length l.self-inside.pieces.items
