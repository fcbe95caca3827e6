-- The walk from the root comes to what the walk from this place along the names that are left comes to.
use Rattle.std.proofs.Common.{◌≡◌, drop}
use Rattle.model.specs.Walks.{walk}
use Rattle.look.specs.Asked.{asked}
use Rattle.walk.specs.Walking.{start}
use Rattle.walk.proofs.walk_along.Given as goal

abbrev pub invariant-loop-name : goal.invariant-loop-name
invariant-loop-name g l =
    let k = g.L.Look.state l.look in
    asked k (walk (start k) l.names) l.fn.reads ≡ asked k (walk l.place (drop l.name-index l.names)) l.reads
