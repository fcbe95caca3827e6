use Rattle.std.proofs.Common.{◌≡◌, ◌+◌, ◌*◌, ◌≤◌, ◌++◌, take}
use Rattle.std.specs.List.{flat_map}
use Rattle.std.specs.Prelude.{vec_capacity, vec_len}
use Rattle.fuse.specs.Numbers.{u64_bytes}
use Rattle.fuse.proofs.put.put_u64s.Given as goal

-- as many numbers are put as the loop has passed, and what there was room for stays
abbrev pub invariant-loop-number : goal.invariant-loop-number
invariant-loop-number l =
    (l.out.items ≡ l.fn.out.items ++ flat_map u64_bytes (take l.number-index l.numbers))
    × (vec_len l.out ≡ vec_len l.fn.out + 8 * l.number-index)
    × (vec_capacity l.fn.out ≤ vec_capacity l.out)
