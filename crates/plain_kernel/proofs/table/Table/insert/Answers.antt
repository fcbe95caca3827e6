use Rattle.std.proofs.Common.{◌∙◌, Some, ap, sym, nat_cmp}
use Rattle.std.specs.Cmp.{nat_cmp_total}
use Rattle.model.specs.FiniteMap as finite
use Rattle.plain_kernel.proofs.Kept.{index_of_in, index_for_in, get-index, get-no_index, is_sorted-set, from_sorted-set, is_sorted-insert, from_sorted-insert}
use Rattle.plain_kernel.proofs.table.Table.insert.Goals as goal

pub invariant_of-self : goal.invariant_of-self
invariant_of-self g c =
    let xs = c.self.inside.slots.items in
    let here = index_of_in {R = nat_cmp} {k = c.args.num} {at = c.in-Ok.index} {es = c.as_slice.result.now} {xs = xs} c.as_slice.ensures.value c.in-Ok.ensures in
    is_sorted-set nat_cmp_total c.args.num c.replace.new.dest xs c.self.invariant _ here c.index_mut.result.now (sym c.index_mut.ensures.value)

pub invariant_of-self-in-Err : goal.invariant_of-self-in-Err
invariant_of-self-in-Err g c =
    let xs = c.self.inside.slots.items in
    let here = index_for_in {R = nat_cmp} {k = c.args.num} {at = c.in-Err.index} {es = c.as_slice.result.now} {xs = xs} c.as_slice.ensures.value c.in-Err.ensures in
    let grown = rw c.in_ok-insert-in-Err.was at c.insert.ensures.items in
    rw grown (is_sorted-insert nat_cmp_total c.args.num c.args.value xs c.self.invariant _ here)

pub returns-in-Ok-clause-changed : goal.returns-in-Ok-clause-changed
returns-in-Ok-clause-changed g c =
    let xs = c.self.inside.slots.items in
    let here = index_of_in {R = nat_cmp} {k = c.args.num} {at = c.in-Ok.index} {es = c.as_slice.result.now} {xs = xs} c.as_slice.ensures.value c.in-Ok.ensures in
    from_sorted-set nat_cmp_total c.args.num c.replace.new.dest xs c.self.invariant _ here c.index_mut.result.now (sym c.index_mut.ensures.value)
    ∙ ap (λ m. finite.insert m c.args.num c.replace.new.dest) c.self.view_is
    ∙ ap (finite.insert c.args.self.now c.args.num) c.replace.ensures.after

pub returns-in-Ok-clause-before : goal.returns-in-Ok-clause-before
returns-in-Ok-clause-before g c =
    let xs = c.self.inside.slots.items in
    let here = index_of_in {R = nat_cmp} {k = c.args.num} {at = c.in-Ok.index} {es = c.as_slice.result.now} {xs = xs} c.as_slice.ensures.value c.in-Ok.ensures in
    ap Some c.replace.ensures.value ∙ sym (get-index nat_cmp_total _ _ _ c.index_mut.result.now c.self.invariant here (sym c.index_mut.ensures.value))
    ∙ ap (λ m. finite.get m c.args.num) c.self.view_is

pub returns-in_ok-insert-in-Err-clause-changed : goal.returns-in_ok-insert-in-Err-clause-changed
returns-in_ok-insert-in-Err-clause-changed g c =
    let xs = c.self.inside.slots.items in
    let here = index_for_in {R = nat_cmp} {k = c.args.num} {at = c.in-Err.index} {es = c.as_slice.result.now} {xs = xs} c.as_slice.ensures.value c.in-Err.ensures in
    let grown = rw c.in_ok-insert-in-Err.was at c.insert.ensures.items in
    rw grown (from_sorted-insert nat_cmp_total c.args.num c.args.value xs c.self.invariant _ here ∙ ap (λ m. finite.insert m c.args.num c.args.value) c.self.view_is)

pub returns-in_ok-insert-in-Err-clause-before : goal.returns-in_ok-insert-in-Err-clause-before
returns-in_ok-insert-in-Err-clause-before g c =
    let here = index_for_in {R = nat_cmp} {k = c.args.num} {at = c.in-Err.index} {es = c.as_slice.result.now} {xs = c.self.inside.slots.items} c.as_slice.ensures.value c.in-Err.ensures in
    sym (get-no_index nat_cmp_total _ _ _ c.self.invariant here) ∙ ap (λ m. finite.get m c.args.num) c.self.view_is
