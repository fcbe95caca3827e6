use Rattle.std.proofs.Common.{◌≡◌, sym, ap, ◌∙◌}
use Rattle.std.proofs.lemmas.List.{drop_all}
use Rattle.freeing_laws.specs.Counts.{free_inode}
use Rattle.freeing_laws.specs.Sweep.{free_inodes}
use Rattle.plain_kernel.proofs.Freed.{inode_freed, inode_kept, inodes_step}
use Rattle.plain_kernel.proofs.plain.PlainKernel.free_inodes.Goals as goal
use Rattle.plain_kernel.proofs.plain.PlainKernel.free_inodes.Goals.{then-not-is_reached, else-not-is_reached}

pub loop-num-preserved : goal.loop-num-preserved
loop-num-preserved c =
    let freed : c.if-not-is_reached.self ≡ free_inode c.num-item.result c.loop-num.self = elim c.if-not-is_reached.branch [
      | then-not-is_reached w ↦ w.self-is ∙ inode_freed _ _ _ (sym c.is_reached.ensures ∙ w.if-not-is_reached.true) w.clear_inode.ensures
      | else-not-is_reached w ↦ w.self-is ∙ inode_kept _ _ (sym c.is_reached.ensures ∙ w.if-not-is_reached.false)
    ] in
    inodes_step c.args.nums.now c.loop-num.num-index c.num-item.result c.loop-num-test.true c.num-item.is _ c.loop-num.self c.if-not-is_reached.self c.loop-num.invariant freed

pub returns : goal.returns
returns c = sym (c.loop-num.invariant ∙ ap (λ xs. free_inodes xs c.loop-num.self) (drop_all _ _ c.loop-num-test.false))
