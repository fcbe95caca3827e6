use Rattle.std.proofs.Common.{◌≡◌, ◌+◌, ◌-◌, ◌/◌, None, IsTrue, nat_cmp, sym, ap, subst, ◌∙◌, arith}
use Rattle.std.specs.FinMap.Entries.{is_sorted}
use Rattle.model.specs.FiniteMap as map
use Rattle.plain_kernel.proofs.Rising.{key_read, not_before, taken_more, wider_more, free_at, taken_at}
use Rattle.plain_kernel.proofs.table.Table.free_from.Goals as goal

pub overflow_sub-num-inside : goal.overflow_sub-num-inside
overflow_sub-num-inside g c =
    let s = subst (λ es. IsTrue (is_sorted nat_cmp es)) (sym c.as_slice-slots.ensures.value) c.self.invariant in
    not_before c.as_slice-slots.result.now s c.args.first c.place_of-start.result c.place_of-start.ensures.value c.loop-low.low c.loop-low.high c.loop-low.invariant.from c.loop-low.invariant.within c.loop-low-test.true
    c.num.inside.0 (c.num.view_is ∙ ap (λ e. e.0) (sym c.index-slots-middle.is) ∙ key_read c.as_slice-slots.result.now (c.loop-low.low + (c.loop-low.high - c.loop-low.low) / 2) c.index-slots-middle.result (omega (arith, c.loop-low-test.true, c.loop-low.invariant.within)) c.index-slots-middle.is)

pub loop-low-preserved-then-num-first : goal.loop-low-preserved-then-num-first
loop-low-preserved-then-num-first g c =
    let s = subst (λ es. IsTrue (is_sorted nat_cmp es)) (sym c.as_slice-slots.ensures.value) c.self.invariant in
    record {
      from = omega (arith, c.loop-low.invariant.from);
      order = omega (arith, c.loop-low-test.true);
      within = c.loop-low.invariant.within;
      taken = taken_more c.as_slice-slots.result.now s c.args.first c.place_of-start.result c.place_of-start.ensures.value c.loop-low.low c.loop-low.high c.loop-low.invariant.from c.loop-low.invariant.within c.loop-low-test.true
          c.num.inside.0 (c.num.view_is ∙ ap (λ e. e.0) (sym c.index-slots-middle.is) ∙ key_read c.as_slice-slots.result.now (c.loop-low.low + (c.loop-low.high - c.loop-low.low) / 2) c.index-slots-middle.result (omega (arith, c.loop-low-test.true, c.loop-low.invariant.within)) c.index-slots-middle.is)
          c.if-num-first.true;
      wider = c.loop-low.invariant.wider;
    }

pub loop-low-preserved : goal.loop-low-preserved
loop-low-preserved g c =
    let s = subst (λ es. IsTrue (is_sorted nat_cmp es)) (sym c.as_slice-slots.ensures.value) c.self.invariant in
    record {
      from = c.loop-low.invariant.from;
      order = omega arith;
      within = omega (arith, c.loop-low-test.true, c.loop-low.invariant.within);
      taken = c.loop-low.invariant.taken;
      wider = wider_more c.as_slice-slots.result.now s c.args.first c.place_of-start.result c.place_of-start.ensures.value c.loop-low.low c.loop-low.high c.loop-low.invariant.from c.loop-low.invariant.within c.loop-low-test.true
          c.num.inside.0 (c.num.view_is ∙ ap (λ e. e.0) (sym c.index-slots-middle.is) ∙ key_read c.as_slice-slots.result.now (c.loop-low.low + (c.loop-low.high - c.loop-low.low) / 2) c.index-slots-middle.result (omega (arith, c.loop-low-test.true, c.loop-low.invariant.within)) c.index-slots-middle.is)
          c.if-num-first.false;
    }

pub returns-clause-free : goal.returns-clause-free
returns-clause-free g c =
    let s = subst (λ es. IsTrue (is_sorted nat_cmp es)) (sym c.as_slice-slots.ensures.value) c.self.invariant in
    subst (λ m. map.get m (c.args.first + (c.loop-low.low - c.place_of-start.result)) ≡ None) (ap (map.from_sorted {R = nat_cmp}) c.as_slice-slots.ensures.value ∙ c.self.view_is)
    (free_at c.as_slice-slots.result.now s c.args.first c.place_of-start.result c.place_of-start.ensures.value c.loop-low.low c.loop-low.invariant.from (omega (arith, c.loop-low.invariant.order, c.loop-low.invariant.within))
    c.loop-low.invariant.taken (λ i above below. c.loop-low.invariant.wider i (omega (arith, c.loop-low-test.false, above)) below))

pub returns-clause-taken : goal.returns-clause-taken
returns-clause-taken g c = λ n above below none.
    let s = subst (λ es. IsTrue (is_sorted nat_cmp es)) (sym c.as_slice-slots.ensures.value) c.self.invariant in
    taken_at c.as_slice-slots.result.now s c.args.first c.place_of-start.result c.place_of-start.ensures.value c.loop-low.low c.loop-low.invariant.from (omega (arith, c.loop-low.invariant.order, c.loop-low.invariant.within))
    c.loop-low.invariant.taken (λ i a b. c.loop-low.invariant.wider i (omega (arith, c.loop-low-test.false, a)) b) n above below
    (ap (λ m. map.get m n) (ap (map.from_sorted {R = nat_cmp}) c.as_slice-slots.ensures.value ∙ c.self.view_is) ∙ none)
