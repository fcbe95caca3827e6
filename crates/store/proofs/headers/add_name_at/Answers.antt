use Rattle.std.proofs.Common.{Option, sym, ap, ◌∙◌}
use Rattle.store.specs.Places.{listing_in}
use Rattle.store.specs.Headers.{place_of}
use Rattle.store.specs.declared.Header.{Header}
use Rattle.store.proofs.headers.add_name_at.Goals as goal

pub add_name_in-requires : goal.add_name_in-requires
add_name_in-requires c listing is = c.requires listing (ap (λ (o : Option Header). listing_in (place_of o)) (sym c.in-Some.ensures.value) ∙ is)
