-- One node was changed, where it is there: what f tells of it is what became of all nodes.
use Rattle.std.proofs.Common.{◌≡◌, ℕ, List, Option, Some, None, cond, nat_eq, sym, ap, ◌∙◌}
use Rattle.std.specs.Cmp.{nat_cmp_total, unsigned_ties}
use Rattle.std.specs.Map.{lookup}
use Rattle.std.specs.Ordering.{nat_cmp}
use Rattle.model.specs.FiniteMap as finite
use Rattle.model.proofs.Laws.{get_at, inserted}
use Rattle.nodes.specs.declared.node.Node.{Node}

module _ (f : Option Node → finite.FinMap nat_cmp Node) (number : ℕ) (es : List (ℕ × Node)) where
  given : finite.get {R = nat_cmp} (finite.from_entries es) number ≡ lookup (nat_eq number) es
  given = get_at nat_cmp_total finite.nat_cmp-IsAntisymmetric nat_eq unsigned_ties es number

  pub changed_at : (node now : Node) (fs : List (ℕ × Node)) → Some node ≡ lookup (nat_eq number) es → ((q : ℕ) → lookup (nat_eq q) fs ≡ cond (nat_eq number q) (Some now) (lookup (nat_eq q) es)) → finite.insert (finite.from_entries es) number now ≡ f (Some node) → finite.from_entries {R = nat_cmp} fs ≡ f (finite.get {R = nat_cmp} (finite.from_entries es) number)
  changed_at node now fs there others is =
      inserted nat_cmp_total finite.nat_cmp-IsAntisymmetric nat_eq unsigned_ties es fs number now others
      ∙ is
      ∙ ap f (there ∙ sym given)

  pub missing_at : None ≡ lookup (nat_eq number) es → f None ≡ f (finite.get {R = nat_cmp} (finite.from_entries es) number)
  missing_at none = ap f (none ∙ sym given)
