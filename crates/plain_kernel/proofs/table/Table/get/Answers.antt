use Rattle.std.proofs.Common.{sym, nat_cmp}
use Rattle.std.specs.Cmp.{nat_cmp_total}
use Rattle.plain_kernel.proofs.Kept.{index_of_in, index_for_in, get-index, get-no_index}
use Rattle.plain_kernel.proofs.table.Table.get.Goals as goal

pub returns-in-Ok : goal.returns-in-Ok
returns-in-Ok g c =
    let here = index_of_in {R = nat_cmp} {k = c.args.num} {at = c.in-Ok.index} {es = c.as_slice.result.now} {xs = c.self.inside.slots.items} c.as_slice.ensures.value c.in-Ok.ensures in
    rw (← c.self.view_is) (sym (get-index nat_cmp_total _ _ _ c.index.result.now c.self.invariant here (sym c.index.ensures)))

pub returns-in-Err : goal.returns-in-Err
returns-in-Err g c =
    let here = index_for_in {R = nat_cmp} {k = c.args.num} {at = c.in-Err._index} {es = c.as_slice.result.now} {xs = c.self.inside.slots.items} c.as_slice.ensures.value c.in-Err.ensures in
    rw (← c.self.view_is) (sym (get-no_index nat_cmp_total _ _ _ c.self.invariant here))
