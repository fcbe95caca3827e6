use Rattle.std.proofs.Common.{nat_eq, ap, ◌∙◌}
use Rattle.std.specs.Cmp.Lexicographic.{pointwise, texts_ties}
use Rattle.model.specs.FiniteMap as finite
use Rattle.dirlist.specs.Patches.{Notes}
use Rattle.dirlist.proofs.Names.{name_exact, name_total}
use Rattle.model.proofs.Laws.{inserted}
use Rattle.dirlist.proofs.patch.NamePatch.note.Goals as goal

pub returns-clause-ok : goal.returns-clause-ok
returns-clause-ok c =
    inserted name_total name_exact (pointwise nat_eq) texts_ties c.self.inside.given.entries c.insert.new.self.entries c.args.name c.args.given c.in_ok-insert.ensures.updates.0
    ∙ ap (λ (m : Notes). finite.insert m c.args.name c.args.given) c.self.view_is
