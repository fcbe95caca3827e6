use Rattle.std.proofs.Common.{◌<◌, ◌≤◌, ◌^◌, subst, arith}
use Rattle.model.specs.FiniteMap as map
use Rattle.slab.specs.Slab.{slab_len}
use Rattle.store.specs.Headers.{places_of}
use Rattle.store.specs.Numbers.{Numbers}
use Rattle.store.proofs.Renamed.{len-places-le}
use Rattle.store.proofs.Store.numbers_are_few.Goals as goal

pub returns : goal.returns
returns c =
    let used : map.len (places_of c.self.inside.headers) ≤ slab_len c.self.inside.headers = len-places-le c.self.inside.headers in
    let few : slab_len c.self.inside.headers < 2 ^ 64 = c.numbers_are_few.ensures in
    let low : map.len (places_of c.self.inside.headers) < 2 ^ 64 = omega arith in
    subst (λ (s : Numbers). map.len s.places < 2 ^ 64) c.self.view_is low
