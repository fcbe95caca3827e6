use Rattle.kernel.proofs.Words.{AllByRecursion, into_iter_items, Fields, Dooms, IsIn, fields}
use Rattle.kernel.proofs.execute.doom_each.Given as goal

-- where what is left to doom leads, all of it leads from the start
abbrev pub invariant-loop-doomed : goal.invariant-loop-doomed
invariant-loop-doomed l = record {
  leads : (g : Fields) → Dooms (fields l.s) g (into_iter_items l.doomed-iterator) → Dooms (fields l.fn.s) g l.fn.all.items;
  are_in : AllByRecursion (λ d. IsIn (fields l.s) d.pid) (into_iter_items l.doomed-iterator);
}
