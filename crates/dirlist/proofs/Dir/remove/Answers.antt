use Rattle.std.proofs.Common.{ℕ, nat_eq, sym, ap, ◌∙◌}
use Rattle.std.specs.Cmp.Lexicographic.{pointwise, texts_ties}
use Rattle.model.specs.FiniteMap as finite
use Rattle.model.specs.State.{name_cmp}
use Rattle.dirlist.specs.Listing.{Listing}
use Rattle.dirlist.proofs.Names.{name_exact, name_total}
use Rattle.model.proofs.Laws.{get_at, removed}
use Rattle.dirlist.proofs.Dir.remove.Goals as goal

abbrev with_names : ℕ → finite.FinMap name_cmp ℕ → Listing
with_names promised names = record { names = names; promised = promised }

pub returns-clause-value : goal.returns-clause-value
returns-clause-value c =
    c.remove.ensures.value
    ∙ sym (get_at name_total name_exact (pointwise nat_eq) texts_ties c.self.inside.numbers.entries c.args.name.now)
    ∙ ap (λ (d : Listing). finite.get d.names c.args.name.now) c.self.view_is

pub returns-clause-rest : goal.returns-clause-rest
returns-clause-rest c =
    ap (with_names c.self.inside.promised) (removed name_total name_exact (pointwise nat_eq) texts_ties c.self.inside.numbers.entries c.remove.new.self.entries c.args.name.now c.remove.ensures.updates.0)
    ∙ ap (λ (d : Listing). with_names d.promised (finite.remove d.names c.args.name.now)) c.self.view_is
