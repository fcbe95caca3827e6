-- A kernel of which nothing was asked yet.
use Rattle.std.specs.Prelude.{◌≡◌, []}
use Rattle.ids.specs.declared.limits.Limits.{Limits}
use Rattle.machine.specs.Shown.{Shown}
use Rattle.ids.specs.Bounds.{bounds_of}

-- it has no entry, and these limits
pub record IsFirst (limits : Limits) (v : Shown) : Type 0 where
  pub entries : v.log.entries ≡ []
  pub limit : v.log.limit ≡ limits.entries
  pub bounds : v.log.bounds ≡ bounds_of limits
