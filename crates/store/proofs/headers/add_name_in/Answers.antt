use Rattle.std.proofs.Common.{ap}
use Rattle.store.specs.Places.{listing_of}
use Rattle.store.proofs.headers.add_name_in.Goals as goal

pub put_name-requires : goal.put_name-requires
put_name-requires c = c.requires c.in-Directory.dir (ap listing_of c.in-Directory.is)
