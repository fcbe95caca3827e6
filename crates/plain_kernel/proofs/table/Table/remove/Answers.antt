use Rattle.std.proofs.Common.{◌∙◌, ap, sym, nat_cmp}
use Rattle.std.specs.Cmp.{nat_cmp_total}
use Rattle.model.specs.FiniteMap as finite
use Rattle.plain_kernel.proofs.Kept.{index_of_in, index_for_in, get-index, get-no_index, remove-absent, is_sorted-remove, from_sorted-remove}
use Rattle.plain_kernel.proofs.table.Table.remove.Goals as goal

pub invariant_of-self : goal.invariant_of-self
invariant_of-self g c =
    let xs = c.self.inside.slots.items in
    let here = index_of_in {R = nat_cmp} {k = c.args.num} {at = c.in-Ok.index} {es = c.as_slice.result.now} {xs = xs} c.as_slice.ensures.value c.in-Ok.ensures in
    rw c.remove-num.ensures.items (is_sorted-remove nat_cmp_total c.args.num xs _ c.self.invariant here)

pub returns-in-Ok-clause-changed : goal.returns-in-Ok-clause-changed
returns-in-Ok-clause-changed g c =
    let xs = c.self.inside.slots.items in
    let here = index_of_in {R = nat_cmp} {k = c.args.num} {at = c.in-Ok.index} {es = c.as_slice.result.now} {xs = xs} c.as_slice.ensures.value c.in-Ok.ensures in
    rw c.remove-num.ensures.items (from_sorted-remove nat_cmp_total c.args.num xs _ c.self.invariant here ∙ ap (λ m. finite.remove m c.args.num) c.self.view_is)

pub returns-in-Ok-clause-before : goal.returns-in-Ok-clause-before
returns-in-Ok-clause-before g c =
    let here = index_of_in {R = nat_cmp} {k = c.args.num} {at = c.in-Ok.index} {es = c.as_slice.result.now} {xs = c.self.inside.slots.items} c.as_slice.ensures.value c.in-Ok.ensures in
    sym (get-index nat_cmp_total _ _ _ c.remove-num.result c.self.invariant here (sym c.remove-num.ensures.value)) ∙ ap (λ m. finite.get m c.args.num) c.self.view_is

pub returns-in-Err-clause-changed : goal.returns-in-Err-clause-changed
returns-in-Err-clause-changed g c =
    let here = index_for_in {R = nat_cmp} {k = c.args.num} {at = c.in-Err._index} {es = c.as_slice.result.now} {xs = c.self.inside.slots.items} c.as_slice.ensures.value c.in-Err.ensures in
    remove-absent nat_cmp_total finite.nat_cmp-IsAntisymmetric _ _ (sym (ap (λ m. finite.get m c.args.num) c.self.view_is) ∙ get-no_index nat_cmp_total _ _ _ c.self.invariant here)

pub returns-in-Err-clause-before : goal.returns-in-Err-clause-before
returns-in-Err-clause-before g c =
    let here = index_for_in {R = nat_cmp} {k = c.args.num} {at = c.in-Err._index} {es = c.as_slice.result.now} {xs = c.self.inside.slots.items} c.as_slice.ensures.value c.in-Err.ensures in
    sym (get-no_index nat_cmp_total _ _ _ c.self.invariant here) ∙ ap (λ m. finite.get m c.args.num) c.self.view_is
