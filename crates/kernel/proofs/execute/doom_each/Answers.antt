use Rattle.kernel.proofs.Words.{rules, ◌≡◌, length, refl, sym, subst, nil_from_length, AllByRecursion, into_iter_items, Dooms, IsIn, fields}
use Rattle.kernel.proofs.Entries.{dooms_more, still_in}
use Rattle.kernel.proofs.execute.doom_each.Goals as goal

pub loop-doomed-preserved : goal.loop-doomed-preserved
loop-doomed-preserved c =
    let before = c.loop-doomed.invariant in
    let first = c.in-Some.ensures.steps.0 in
    let rest = into_iter_items c.next.new.self in
    record {
      leads = λ g later. before.leads g (subst (Dooms (fields c.loop-doomed.s) g) (sym first) (dooms_more _ _ g _ rest c.doom.ensures later));
      are_in = still_in _ _ rest c.doom.ensures (subst (AllByRecursion (λ d. IsIn (fields c.loop-doomed.s) d.pid)) first before.are_in).1;
    }

pub returns : goal.returns
returns c =
    let zero : length (into_iter_items c.loop-doomed.doomed-iterator) ≡ 0 = search rules in
    c.loop-doomed.invariant.leads _ (subst (Dooms (fields c.loop-doomed.s) _) (sym (nil_from_length _ zero)) (record { log = refl; state = refl; slot_count = refl; held_count = refl; parts = λ q. refl }))
