use Rattle.std.proofs.Common.{◌≡◌, ◌≢◌, ℕ, ◌+◌, ◌++◌, ◌∷◌, [], None, get_or, option_copied, take, sym, ap, subst, arith, ◌∙◌}
use Rattle.std.specs.List.{AllByRecursion}
use Rattle.std.specs.Ordering.{nat_cmp}
use Rattle.std.proofs.lemmas.List.{take_all, take_more}
use Rattle.model.specs.Entries.{Entry}
use Rattle.model.specs.FiniteMap.{FinMap, get}
use Rattle.replay.specs.Checked.{AreHeld, Grows}
use Rattle.replay.specs.Faults.{HoldsEntry}
use Rattle.replay.specs.Windows.{Finds}
use Rattle.plain_kernel.proofs.Laws.{all_at}
use Rattle.replay.proofs.Seen.{all_more, all_so, grows_more, held_more, there_more}
use Rattle.replay.proofs.checker.keep_all.Goals as goal
use Rattle.replay.proofs.checker.keep_all.Goals.{in-Some+in_ok-try_clone+in_ok-set, in_default}

pub loop-position-preserved : goal.loop-position-preserved
loop-position-preserved g c =
    let i = c.loop-position.position-index in
    let ps = c.args.positions.now in
    let p : ℕ = get_or ps i 0 in
    let before : FinMap nat_cmp Entry = c.loop-position.kept in
    let after : FinMap nat_cmp Entry = c.match-entry.kept in
    let seen = all_at _ ps i 0 c.requires.1.0 c.loop-position-test.true in
    let found = c.entry.ensures g.es c.requires.0 seen.0 in
    let one : AreHeld g.es after × (get after p ≢ None) × Grows before after = elim c.match-entry.branch [
      | in-Some+in_ok-try_clone+in_ok-set w ↦
          let here = subst (HoldsEntry g.es p) (sym w.in_ok-try_clone.ensures) (subst (Finds g.es p) (ap option_copied w.in-Some.is) found) in
          subst (λ (m : FinMap nat_cmp Entry). AreHeld g.es m × (get m p ≢ None) × Grows before m) (sym (w.kept-is ∙ w.in_ok-set.ensures.changed))
          (held_more g.es before p _ c.loop-position.invariant.0 here, there_more before p _, grows_more before p _)
      | in_default w ↦
          let past = subst (Finds g.es p) (ap option_copied w.in_default.is) found in
          let low = seen.1 in
          absurd (omega arith)
    ] in
    let more : take (i + 1) ps ≡ take i ps ++ p ∷ [] = take_more ps i 0 c.loop-position-test.true in (
      one.0,
      subst (AllByRecursion (λ q. get after q ≢ None)) (sym more) (all_more (λ q. get after q ≢ None) (take i ps) p
          (all_so (λ q. get before q ≢ None) (λ q. get after q ≢ None) (take i ps) one.2 c.loop-position.invariant.1) one.1),
      λ position there. one.2 position (c.loop-position.invariant.2 position there),
    )

pub returns-clause-there : goal.returns-clause-there
returns-clause-there g c = subst (AllByRecursion (λ p. get c.loop-position.kept p ≢ None)) (take_all _ _ c.loop-position-test.false) c.loop-position.invariant.1
