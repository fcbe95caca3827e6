use Rattle.std.proofs.Common.{nat_eq, sym, ap, ◌∙◌}
use Rattle.std.specs.Cmp.Lexicographic.{pointwise, texts_ties}
use Rattle.model.specs.FiniteMap as finite
use Rattle.dirlist.specs.Patches.{Notes}
use Rattle.dirlist.proofs.Names.{name_exact, name_total}
use Rattle.model.proofs.Laws.{get_at}
use Rattle.dirlist.proofs.patch.NamePatch.look.Goals as goal

pub returns : goal.returns
returns c =
    c.copied.ensures ∙ c.get.ensures.value
    ∙ sym (get_at name_total name_exact (pointwise nat_eq) texts_ties c.self.inside.given.entries c.args.name.now)
    ∙ ap (λ (m : Notes). finite.get m c.args.name.now) c.self.view_is
