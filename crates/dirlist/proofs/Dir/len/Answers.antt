use Rattle.std.proofs.Common.{nat_eq, sym, ap, ◌∙◌}
use Rattle.std.specs.Cmp.Lexicographic.{pointwise, texts_ties}
use Rattle.model.specs.FiniteMap as finite
use Rattle.dirlist.specs.Listing.{Listing}
use Rattle.dirlist.proofs.Names.{name_exact, name_total}
use Rattle.dirlist.proofs.Entries.{len_made}
use Rattle.dirlist.proofs.Dir.len.Goals as goal

pub returns : goal.returns
returns c =
    c.len.ensures.len
    ∙ sym (len_made name_total name_exact (pointwise nat_eq) texts_ties c.self.inside.numbers.entries c.len.ensures.unique)
    ∙ ap (λ (d : Listing). finite.len d.names) c.self.view_is
