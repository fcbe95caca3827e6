-- Runs of a plain kernel, and what they come to without the calls that change nothing.
use Rattle.std.proofs.Common.{◌≡◌, ℕ, Bool, true, false, List, [], ◌∷◌, ◌++◌, cond, inr, refl, sym, subst, ◌∙◌}
use Rattle.std.specs.List.{AllByRecursion}
use Rattle.model.specs.State.{Kernel}
use Rattle.model.specs.Changes.{tidy}
use Rattle.model.specs.Steps.{Item, Step, Run}
use Rattle.model.specs.Entries.{Executed, is_inside}
use Rattle.model.specs.Moments.{is_alive}
use Rattle.model.specs.Legal.{items}
use Rattle.call_laws.specs.WellFormed.{WellFormed}
use Rattle.call_laws.specs.CallLaws.{IsReady, changed}
use Rattle.call_laws.proofs.Laws.{calls_are_lawful_lem}
use Rattle.redo_records.specs.Changing.{changes, changing}
use Rattle.redo_records.proofs.Looking.{left_out_changes_nothing}

pub run_append : (k mid l : Kernel) (xs ys : List Item) → Run k xs mid → Run mid ys l → Run k (xs ++ ys) l
run_append k mid l [] ys r q = subst (λ x. Run x ys l) r q
run_append k mid l (x ∷ xs) ys r q = (r.0, r.1, run_append r.0 mid l xs ys r.2 q)

pub run_split : (k l : Kernel) (xs ys : List Item) → Run k (xs ++ ys) l → (mid : Kernel) × (Run k xs mid × Run mid ys l)
run_split k l [] ys r = (k, (refl, r))
run_split k l (x ∷ xs) ys r = let rest = run_split r.0 l xs ys r.2 in (rest.0, ((r.0, r.1, rest.1.0), rest.1.1))

-- a run leads to one state
pub same_end : (k l n : Kernel) (xs : List Item) → Run k xs l → Run k xs n → n ≡ l
same_end k l n [] r q = q ∙ sym r
same_end k l n (x ∷ xs) r q =
    let met : q.0 ≡ r.0 = q.1.changed ∙ sym r.1.changed in
    same_end r.0 l n xs r.2 (subst (λ (m : Kernel). Run m xs n) met q.2)

-- a step that can have changed nothing leaves a tidied state as it is
pub still : (k l : Kernel) (it : Item) → tidy k ≡ k → Step k it.pid it.call it.answer it.chosen l → changes it.call it.answer ≡ false → l ≡ k
still k l it tidied step none =
    (left_out_changes_nothing k l it.pid it.call it.answer it.chosen step none).1 ∙ tidied

-- a well-formed state in which nothing is unreached, and in which the process lives
pub record Stands (pid : ℕ) (k : Kernel) : Type 0 where
  pub well : WellFormed k
  pub tidied : tidy k ≡ k
  pub alive : is_alive k pid ≡ true

alive_tidied : (k : Kernel) (q : ℕ) → is_alive (tidy k) q ≡ is_alive k q
unfolding tidy
alive_tidied k q = refl

-- it is so after each step of a call that transactions support
stands_after : (pid : ℕ) (k l : Kernel) (c : Executed) → Stands pid k → is_inside c.call ≡ true → Step k pid c.call c.answer c.chosen l → Stands pid l
stands_after pid k l c s inside step =
    let ready : IsReady WellFormed k pid c.call c.chosen = record { well = s.well; alive = s.alive; numbers = step.numbers } in
    let well : WellFormed (changed k pid c.call c.chosen) = calls_are_lawful_lem.well_after k pid c.call c.chosen ready in
    subst (Stands pid) (sym step.changed) (record {
      well = calls_are_lawful_lem.well_tidy _ well;
      tidied = calls_are_lawful_lem.tidy_twice _ well;
      alive = alive_tidied (changed k pid c.call c.chosen) pid ∙ calls_are_lawful_lem.alive_after k pid c.call c.chosen ready pid (inr inside) s.alive;
    })

-- one step, and what follows it without what changes nothing
step_kept : (k mid l : Kernel) (it : Item) (rest : List Item) → tidy k ≡ k → Step k it.pid it.call it.answer it.chosen mid → Run mid (changing rest) l → Run k (changing (it ∷ rest)) l
step_kept k mid l it rest tidied step run = by (changes it.call it.answer) refl where
  by : (b : Bool) → changes it.call it.answer ≡ b → Run k (cond b (it ∷ changing rest) (changing rest)) l
  by true _ = (mid, step, run)
  by false none = subst (λ (m : Kernel). Run m (changing rest) l) (still k mid it tidied step none) run

-- one call alone
pub one_kept : (k l : Kernel) (it : Item) → tidy k ≡ k → Run k (it ∷ []) l → Run k (changing (it ∷ [])) l
one_kept k l it tidied r = step_kept k r.0 l it [] tidied r.1 r.2

-- a list of one process
pub list_kept : (pid : ℕ) (cs : List Executed) (k l : Kernel) → Stands pid k → AllByRecursion (λ d. is_inside d.call ≡ true) cs → Run k (items pid cs) l → Run k (changing (items pid cs)) l
list_kept pid [] k l s inside r = r
list_kept pid (c ∷ cs) k l s inside r =
    step_kept k r.0 l (record { pid = pid; call = c.call; answer = c.answer; chosen = c.chosen }) (items pid cs) s.tidied r.1
    (list_kept pid cs r.0 l (stands_after pid k r.0 c s inside.0 r.1) inside.1 r.2)
