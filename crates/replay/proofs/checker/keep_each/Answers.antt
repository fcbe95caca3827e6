use Rattle.std.proofs.Common.{◌≡◌, ◌≢◌, ◌+◌, ◌++◌, ◌∷◌, [], None, Some, take, sym, ap, subst, ◌∙◌}
use Rattle.std.specs.List.{AllByRecursion}
use Rattle.std.specs.Ordering.{nat_cmp}
use Rattle.std.proofs.lemmas.List.{take_more}
use Rattle.model.specs.Entries.{Entry}
use Rattle.model.specs.FiniteMap.{FinMap, get}
use Rattle.replay.specs.Checked.{AreHeld, AreThere, Grows}
use Rattle.replay.proofs.Seen.{all_more, all_so, there_grows}
use Rattle.replay.proofs.checker.keep_each.Goals as goal
use Rattle.replay.proofs.checker.keep_each.Goals.{in-Live+in_ok-keep_all, in_default}

pub loop-slot-preserved : goal.loop-slot-preserved
loop-slot-preserved g c =
    let i = c.loop-slot.slot-index in
    let slots = c.args.slots.now in
    let slot = c.slot-item.result in
    let before : FinMap nat_cmp Entry = c.loop-slot.kept in
    let after : FinMap nat_cmp Entry = c.match-slot.kept in
    let one : AreHeld g.es after × AreThere after (Some slot.1) × Grows before after = elim c.match-slot.branch [
      | in-Live+in_ok-keep_all w ↦
          let there = subst (AllByRecursion (λ p. get w.keep_all.new.kept p ≢ None)) w.as_slice.ensures w.in_ok-keep_all.ensures.there in
          subst (λ (m : FinMap nat_cmp Entry). AreHeld g.es m × AreThere m (Some slot.1) × Grows before m) (sym w.kept-is)
          (w.in_ok-keep_all.ensures.held, subst (λ t. AreThere w.keep_all.new.kept (Some t)) (sym w.in-Live.is) there, w.in_ok-keep_all.ensures.grows)
      | in_default w ↦
          subst (λ (m : FinMap nat_cmp Entry). AreHeld g.es m × AreThere m (Some slot.1) × Grows before m) (sym w.kept-is)
          (c.loop-slot.invariant.0, subst (λ t. AreThere before (Some t)) (sym w.in_default.is) tt, λ position there. there)
    ] in
    let more : take (i + 1) slots ≡ take i slots ++ slot ∷ [] = take_more slots i slot c.loop-slot-test.true ∙ ap (λ x. take i slots ++ x ∷ []) (sym c.slot-item.is) in (
      one.0,
      subst (AllByRecursion (λ s. AreThere after (Some s.1))) (sym more) (all_more (λ s. AreThere after (Some s.1)) (take i slots) slot
          (all_so (λ s. AreThere before (Some s.1)) (λ s. AreThere after (Some s.1)) (take i slots) (λ s h. there_grows before after (Some s.1) one.2 h) c.loop-slot.invariant.1) one.1),
    )
