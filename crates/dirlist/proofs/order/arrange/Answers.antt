use Rattle.std.proofs.Common.{List, IsPermutation, ap, rules, subst, sym, ◌∙◌}
use Rattle.std.proofs.lemmas.List.Sorted.{IsPermutation-swap, IsPermutation-trans}
use Rattle.model.specs.State.{Name}
use Rattle.dirlist.proofs.order.arrange.Goals as goal
use Rattle.dirlist.proofs.order.arrange.Goals.{then-from-start+then-index-len+then-from-len, else-from-start}

pub loop-preserved : goal.loop-preserved
loop-preserved c = elim c.if-from-start.branch [
  | then-from-start+then-index-len+then-from-len w ↦ IsPermutation-trans c.args.names.now.items c.loop.names.items c.if-from-start.names.items c.loop.invariant
      (IsPermutation-swap c.loop.names.items c.if-from-start.names.items c.loop.index c.in-Some.key.now.index
      (search rules) (search rules) (ap (λ v. v.items) w.names-is ∙ w.swap.ensures.items))
  | else-from-start w ↦ subst (λ (ns : List Name). IsPermutation c.args.names.now.items ns) (sym (ap (λ v. v.items) w.names-is)) c.loop.invariant
]
