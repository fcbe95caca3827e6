use Rattle.std.proofs.Common.{List, IsPermutation, ap, subst, sym}
use Rattle.std.proofs.lemmas.List.Sorted.{IsPermutation-trans}
use Rattle.model.specs.State.{Name}
use Rattle.dirlist.proofs.order.sort_names.Goals as goal
use Rattle.dirlist.proofs.order.sort_names.Goals.{then-not-seem_ordered+in-Ok, then-not-seem_ordered+in_default, else-not-seem_ordered}

pub returns-clause-permutation : goal.returns-clause-permutation
returns-clause-permutation c = elim c.if-not-seem_ordered.branch [
  | then-not-seem_ordered+in-Ok w ↦ IsPermutation-trans c.args.names.now.items c.if-not-seem_ordered.names.items c.sort_unstable.new.self.items
      (subst (λ (ns : List Name). IsPermutation c.args.names.now.items ns) (sym (ap (λ v. v.items) w.names-is)) w.arrange.ensures) c.sort_unstable.ensures.permutation
  | then-not-seem_ordered+in_default w ↦ subst (λ (ns : List Name). IsPermutation ns c.sort_unstable.new.self.items) (ap (λ v. v.items) w.names-is) c.sort_unstable.ensures.permutation
  | else-not-seem_ordered w ↦ subst (λ (ns : List Name). IsPermutation ns c.sort_unstable.new.self.items) (ap (λ v. v.items) w.names-is) c.sort_unstable.ensures.permutation
]
