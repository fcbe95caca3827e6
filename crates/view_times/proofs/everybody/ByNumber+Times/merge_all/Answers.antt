use Rattle.std.proofs.Common.{ℕ, List, nat_eq, refl, sym, ap, subst, ◌∙◌}
use Rattle.std.specs.List.{IsDistinct}
use Rattle.std.specs.Map.{keys_of, lookup}
use Rattle.model.specs.FiniteMap.{get}
use Rattle.view_times.specs.Kept.{merged_if, notes_by}
use Rattle.view_times.specs.declared.noted.Notes.{Notes}
use Rattle.view_times.proofs.Merging.{Merges, all_merged, merges_nothing, merges_on}
use Rattle.view_times.proofs.Written.{found, same_get}
use Rattle.view_times.proofs.everybody.ByNumber+Times.merge_all.Goals as goal

pub loop-inode-init : goal.loop-inode-init
loop-inode-init c =
    let gives = c.into_iter-inode-iterator.ensures.into_iter_gives in (
      merges_nothing c.args.self.now.rows c.into_iter-inode-iterator.result (subst (λ (es : List (ℕ × Notes)). IsDistinct nat_eq (keys_of es)) (sym gives.0) gives.4),
      refl,
    )

pub loop-inode-preserved : goal.loop-inode-preserved
loop-inode-preserved c =
    let left = subst (λ (es : List (ℕ × Notes)). Merges c.args.self.now.rows c.loop-inode.self.rows c.into_iter-inode-iterator.result es) c.in-Some.ensures.steps c.loop-inode.invariant.0 in (
      merges_on c.args.self.now.rows c.loop-inode.self.rows c.merge.new.self.rows c.into_iter-inode-iterator.result c.in-Some.inode.now c.in-Some.notes.now c.next.new.self left c.merge.ensures.times,
      c.merge.ensures.room ∙ c.loop-inode.invariant.1,
    )

pub returns-clause-times : goal.returns-clause-times
returns-clause-times c = λ q.
    let all = c.into_iter-inode-iterator.result in
    let done = subst (λ (es : List (ℕ × Notes)). Merges c.args.self.now.rows c.loop-inode.self.rows all es) c.in-None.ensures.steps.0 c.loop-inode.invariant.0 in
    all_merged c.args.self.now.rows c.loop-inode.self.rows all done q
    ∙ ap (λ o. merged_if (notes_by o) (get c.args.self.now.rows q))
    (ap (lookup (nat_eq q)) c.into_iter-inode-iterator.ensures.into_iter_gives.0 ∙ sym (found c.noted.inside.rows.entries q) ∙ same_get c.noted.view_is q)
