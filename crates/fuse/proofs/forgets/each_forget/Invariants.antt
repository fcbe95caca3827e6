use Rattle.std.proofs.Common.{◌≡◌, ◌++◌, ◌*◌, ◌-◌, length}
use Rattle.fuse.specs.Bodies.{forgets_in}
use Rattle.fuse.proofs.forgets.each_forget.Given as goal

-- those that were read and those that are still to be read are all, and the rest has as many
abbrev pub invariant-loop : goal.invariant-loop
invariant-loop l =
    (l.forgets.items ++ forgets_in (l.count - l.counter) l.rest ≡ forgets_in l.count l.bytes)
    × (length l.rest ≡ 16 * (l.count - l.counter))
