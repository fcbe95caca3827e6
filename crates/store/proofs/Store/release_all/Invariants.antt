-- So many promises are given up so far.
use Rattle.std.proofs.Common.{◌≡◌, []}
use Rattle.store.specs.Places.{altered, with_listing}
use Rattle.store.specs.Laid.{laid_listing}
use Rattle.store.proofs.Store.release_all.Given as goal

abbrev pub invariant-loop-i : goal.invariant-loop-i
invariant-loop-i l = l.self ≡ altered (with_listing (laid_listing [] l._i)) l.fn.self l.dir
