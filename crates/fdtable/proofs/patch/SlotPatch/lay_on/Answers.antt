use Rattle.std.proofs.Common.{◌≡◌, ◌+◌, ℕ, List, Bool, nat_cmp, sym, subst, ◌∙◌, arith, inr}
use Rattle.model.specs.FiniteMap.{FinMap}
use Rattle.fdtable.specs.Pages.{HasRoom}
use Rattle.fdtable.proofs.Laying.{AreSwapped, is_noted, swapped_former, swapped_laid, swapped_more, swapped_start}
use Rattle.fdtable.proofs.patch.SlotPatch.lay_on.Goals as goal

pub loop-fd-init : goal.loop-fd-init
loop-fd-init c = record {
  swapped = subst (λ (t : FinMap nat_cmp ℕ). AreSwapped c.args.self.now c.args.table.now t c.args.self.now 0) (sym (c.join.ensures.slots ∙ c.table.view_is)) (swapped_start c.args.self.now c.args.table.now);
  room = λ f some. c.join.ensures.rooms f (inr (subst (λ (r : List Bool). HasRoom r f) (sym c.into_pages.ensures.rooms) (c.requires f some)));
}

pub swap-requires-clause-room : goal.swap-requires-clause-room
swap-requires-clause-room c =
    c.loop-fd.invariant.room c.in-Some.fd
    (is_noted c.args.self.now c.args.table.now c.loop-fd.table-inside.pages.slots c.loop-fd.self c.loop-fd.from c.loop-fd.invariant.swapped c.in-Some.fd c.in-Some.ensures.value)

pub loop-fd-preserved : goal.loop-fd-preserved
loop-fd-preserved c = record {
  swapped = subst (AreSwapped c.args.self.now c.args.table.now c.swap.new.table.slots c.swap.new.self) (let same : c.in-Some.fd + 1 ≡ c.fd.inside.0 + 1 = omega (arith, c.fd.view_is) in same)
      (swapped_more c.args.self.now c.args.table.now c.loop-fd.table-inside.pages.slots c.loop-fd.self c.loop-fd.from c.loop-fd.invariant.swapped c.in-Some.fd c.in-Some.ensures.value
      c.swap.new.table.slots c.swap.new.self c.swap.ensures.slots c.swap.ensures.former);
  room = λ f some. subst (λ (r : List Bool). HasRoom r f) (sym c.swap.ensures.rooms) (c.loop-fd.invariant.room f some);
}

pub returns-clause-laid : goal.returns-clause-laid
returns-clause-laid c = swapped_laid c.args.self.now c.args.table.now c.loop-fd.table-inside.pages.slots c.loop-fd.self c.loop-fd.from c.loop-fd.invariant.swapped c.in_default.ensures.value

pub returns-clause-former : goal.returns-clause-former
returns-clause-former c = swapped_former c.args.self.now c.args.table.now c.loop-fd.table-inside.pages.slots c.loop-fd.self c.loop-fd.from c.loop-fd.invariant.swapped c.in_default.ensures.value
