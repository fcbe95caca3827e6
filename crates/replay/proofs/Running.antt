-- Calls that run on a tidied state.
use Rattle.std.proofs.Common.{◌≡◌, ℕ, List, [], ◌∷◌, ◌++◌, true, false, Option, Some, None, Result, refl, sym, ap, subst, ◌∙◌}
use Rattle.std.specs.Option.{is_some}
use Rattle.model.specs.State.{Kernel}
use Rattle.model.specs.Plan.{Errno}
use Rattle.model.specs.Changes.{tidy}
use Rattle.model.specs.Calls.{Call, Answer}
use Rattle.model.specs.Steps.{CanBeChosen, Item, Run, edits, reply}
use Rattle.model.specs.Changes.{Edit}
use Rattle.model.specs.Entries.{Do, Executed, Reply, answer_in}
use Rattle.model.specs.Moments.{after_list, is_alive, plain_calls}
use Rattle.model.specs.Legal.{items}
use Rattle.call_laws.specs.WellFormed.{WellFormed}
use Rattle.call_laws.specs.CallLaws.{IsReady, changed}
use Rattle.call_laws.proofs.Laws.{calls_are_lawful_lem}
use Rattle.freeing_laws.specs.Sweep.{IsTidied, all_freed}
use Rattle.freeing_laws.proofs.Laws.{sweep_is_tidy_lem}
use Rattle.replay.specs.Ran.{Ran}
use Rattle.replay.specs.Transactions.{call_in}

-- nothing runs
pub ran_none : (k : Kernel) (pid : ℕ) → IsTidied k → Ran k pid [] k
ran_none k pid t = record { run = refl; tidied = t }

-- nor do no calls
pub ran_nothing : (k : Kernel) (pid : ℕ) (cs : List Executed) → cs ≡ [] → IsTidied k → Ran k pid cs k
ran_nothing k pid cs none t = subst (λ (xs : List Executed). Ran k pid xs k) (sym none) (ran_none k pid t)

-- a call that was not executed is none
pub not_executed : (call : Call) (o : Option (Result Answer Errno)) (chosen : List ℕ) → is_some o ≡ false → plain_calls call o chosen ≡ []
not_executed call None chosen h = refl
not_executed call (Some x) chosen h = absurd cc

-- one call, whose edits are freed at once
pub ran_one : (k : Kernel) (pid : ℕ) (call : Call) (answer : Result Answer Errno) (chosen : List ℕ) (after : Kernel)
    → IsTidied k → is_alive k pid ≡ true → answer ≡ reply k pid call → CanBeChosen k (edits k pid call) chosen
    → after ≡ all_freed chosen (edits k pid call) k
    → Ran k pid (record { call = call; answer = answer; chosen = chosen } ∷ []) after
ran_one k pid call answer chosen after t alive said numbers is =
    let ready : IsReady WellFormed k pid call chosen = record { well = t.well; alive = alive; numbers = numbers } in
    let made : after ≡ tidy (changed k pid call chosen) = is ∙ sweep_is_tidy_lem.call k (record { pid = pid; call = call; chosen = chosen }) t ready in
    let well : WellFormed (changed k pid call chosen) = calls_are_lawful_lem.well_after k pid call chosen ready in
    let left : IsTidied (tidy (changed k pid call chosen)) = record { well = calls_are_lawful_lem.well_tidy _ well; tidied = calls_are_lawful_lem.tidy_twice _ well } in
    record {
      run = (after, record { replied = said; numbers = numbers; changed = made }, refl);
      tidied = subst IsTidied (sym made) left;
    }

-- a call that is answered as the plan says, with the plan's edits
pub ran_step : (k : Kernel) (pid : ℕ) (call : Call) (said : Reply) (answer : Result Answer Errno) (es : List Edit) (chosen : List ℕ) (after : Kernel)
    → IsTidied k → is_alive k pid ≡ true → answer_in said ≡ Some answer → answer ≡ reply k pid call → es ≡ edits k pid call → CanBeChosen k es chosen
    → after ≡ all_freed chosen es k → Ran k pid (call_in (Do call) said chosen) after
ran_step k pid call said answer es chosen after t alive is right plan numbers made =
    subst (λ o. Ran k pid (plain_calls call o chosen) after) (sym is)
    (ran_one k pid call answer chosen after t alive right (subst (λ xs. CanBeChosen k xs chosen) plan numbers) (made ∙ ap (λ xs. all_freed chosen xs k) plan))

pub run_append : (k mid l : Kernel) (xs ys : List Item) → Run k xs mid → Run mid ys l → Run k (xs ++ ys) l
run_append k mid l [] ys r q = subst (λ x. Run x ys l) r q
run_append k mid l (x ∷ xs) ys r q = (r.0, r.1, run_append r.0 mid l xs ys r.2 q)

pub items_append : (pid : ℕ) (xs ys : List Executed) → items pid (xs ++ ys) ≡ items pid xs ++ items pid ys
items_append pid [] ys = refl
items_append pid (x ∷ xs) ys = ap (λ is. record { pid = pid; call = x.call; answer = x.answer; chosen = x.chosen } ∷ is) (items_append pid xs ys)

-- calls behind calls
pub ran_append : (k mid l : Kernel) (pid : ℕ) (xs ys : List Executed) → Ran k pid xs mid → Ran mid pid ys l → Ran k pid (xs ++ ys) l
ran_append k mid l pid xs ys r q = record {
  run = subst (λ is. Run k is l) (sym (items_append pid xs ys)) (run_append k mid l (items pid xs) (items pid ys) r.run q.run);
  tidied = q.tidied;
}

-- a run leads where the list leads
pub run_leads : (pid : ℕ) (es : List Executed) (k l : Kernel) → Run k (items pid es) l → l ≡ after_list pid es k
run_leads pid [] k l r = r
run_leads pid (e ∷ es) k l r = run_leads pid es r.0 l r.2 ∙ ap (after_list pid es) r.1.changed
