use Rattle.std.proofs.Common.{◌≡◌, ℕ, ◌+◌, nat_eq, ap, ◌∙◌, rules}
use Rattle.std.specs.Cmp.Lexicographic.{pointwise, texts_ties}
use Rattle.model.specs.FiniteMap as finite
use Rattle.model.specs.State.{name_cmp}
use Rattle.dirlist.specs.Listing.{Listing}
use Rattle.dirlist.proofs.Names.{name_exact, name_total}
use Rattle.model.proofs.Laws.{same_made}
use Rattle.dirlist.proofs.Dir.promise.Goals as goal

abbrev with_names : ℕ → finite.FinMap name_cmp ℕ → Listing
with_names promised names = record { names = names; promised = promised }

pub returns-clause-ok : goal.returns-clause-ok
returns-clause-ok c =
    let names : finite.from_entries {R = name_cmp} c.reserve.new.self.entries ≡ c.args.self.now.names
    = same_made name_total name_exact (pointwise nat_eq) texts_ties c.self.inside.numbers.entries c.reserve.new.self.entries c.reserve.ensures.entries.2 ∙ ap (λ (d : Listing). d.names) c.self.view_is in
    let more : c.in-Some.wanted ≡ c.self.inside.promised + 1 = search rules in
    (λ i. with_names (more i) (names i)) ∙ ap (λ (d : Listing). with_names (d.promised + 1) c.args.self.now.names) c.self.view_is
