use Rattle.std.proofs.Common.{nat_eq, ap, ◌∙◌}
use Rattle.std.specs.Cmp.Lexicographic.{pointwise, texts_ties}
use Rattle.model.specs.FiniteMap as finite
use Rattle.dirlist.specs.Listing.{Listing}
use Rattle.dirlist.proofs.Names.{name_exact, name_total}
use Rattle.model.proofs.Laws.{inserted}
use Rattle.dirlist.proofs.Dir.insert_promised.Goals as goal

pub returns-clause-names : goal.returns-clause-names
returns-clause-names c =
    let updated = rw c.unwrap-former.ensures at c.insert-added.ensures.updates in
    inserted name_total name_exact (pointwise nat_eq) texts_ties c.self.inside.numbers.entries c.insert-added.new.self.entries c.args.name c.args.num updated.0
    ∙ ap (λ (d : Listing). finite.insert d.names c.args.name c.args.num) c.self.view_is
