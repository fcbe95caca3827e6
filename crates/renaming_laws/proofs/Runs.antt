-- Numbers that can be chosen, steps and runs, in a renamed state.
use Rattle.std.proofs.Common.{◌≡◌, ◌≢◌, ℕ, ◌+◌, List, [], ◌∷◌, map, length, Option, Some, None, sum_by, refl, sym, ap, ap₂, subst, ◌∙◌}
use Rattle.std.specs.List.{AllByRecursion}
use Rattle.std.specs.Cmp.{nat_cmp_total}
use Rattle.std.proofs.lemmas.List.{length-map}
use Rattle.std.proofs.lemmas.List.Sums.{sum_by-cons}
use Rattle.model.specs.FiniteMap.{get, nat_cmp-IsAntisymmetric}
use Rattle.model.specs.State.{Kernel, Process, mapped, names_of}
use Rattle.model.specs.Changes.{Edit, Make_directory, Make_file, Make_fixed, Name_file, Unname_file, Unname_directory, Swap, Wipe, Move, Put_bytes, Cut, Take, Append, Set_offset, Set_rights, Open_inode, Make_pipe, Share_slot, Clear_slot, New_process, End_process, news, all_applied, tidy, process_of}
use Rattle.model.specs.Steps.{outcome, edits, IsNowhere, AllDifferent, CanBeChosen, Step, Item, Run}
use Rattle.call_laws.proofs.Laws.{not_none, some_same}
use Rattle.renaming_laws.specs.Renaming.{IsRenaming, renamed_inode, renamed_description, renamed}
use Rattle.renaming_laws.specs.Renamed.{renamed_edit, renamed_answer, mapped_ok, renamed_item}
use Rattle.renaming_laws.specs.Laws.{SlotsAreThere, HasNumbers, RunsAreRenamed}
use Rattle.renaming_laws.proofs.Maps.{get_at}
use Rattle.renaming_laws.proofs.States.{inode_at, set_at, description_at, given_at, process_at}
use Rattle.renaming_laws.proofs.Edits.{edits_renamed, tidy_renamed}
use Rattle.renaming_laws.proofs.Calls.{calls_are_renamed}
use Rattle.renaming_laws.proofs.Sound.{call_sound, edits_sound}
use Rattle.renaming_laws.proofs.Slots.{edits_keep, tidying_keeps}

module _ (f : ℕ → ℕ) (r : IsRenaming f) where
  same_number : (m n : ℕ) → f m ≡ f n → m ≡ n
  same_number m n e = sym (r.again m) ∙ ap f e ∙ r.again n

  given_back : (o : Option ℕ) (n : ℕ) → mapped f o ≡ Some (f n) → o ≡ Some n
  given_back None n e = absurd (not_none (f n) (sym e))
  given_back (Some m) n e = ap Some (same_number m n (some_same (f m) (f n) e))

  table_at : (k : Kernel) (pid fd : ℕ) → get (process_of (renamed f k) pid).table fd ≡ mapped f (get (process_of k pid).table fd)
  table_at k pid fd = ap (λ (process : Process). get process.table fd) (process_at f r k pid) ∙ get_at nat_cmp_total nat_cmp-IsAntisymmetric (λ x. x) (λ x. refl) f (process_of k pid).table fd

  nowhere_renamed : (k : Kernel) (n : ℕ) → IsNowhere k n → IsNowhere (renamed f k) (f n)
  nowhere_renamed k n h = record {
    inode = inode_at f r k n ∙ ap (mapped (renamed_inode f)) h.inode;
    rights = set_at f r k n ∙ h.rights;
    description = description_at f r k n ∙ ap (mapped (renamed_description f)) h.description;
    unnamed = λ d x e. h.unnamed (f d) x (given_back (get (names_of k (f d)) x) n (sym (given_at f r k (f d) x) ∙ ap (λ d. get (names_of (renamed f k) d) x) (r.again d) ∙ e));
    unheld = λ pid fd e. h.unheld pid fd (given_back (get (process_of k pid).table fd) n (sym (table_at k pid fd) ∙ e));
  }

  all_nowhere : (k : Kernel) (ns : List ℕ) → AllByRecursion (IsNowhere k) ns → AllByRecursion (IsNowhere (renamed f k)) (map f ns)
  all_nowhere k [] h = tt
  all_nowhere k (n ∷ ns) h = (nowhere_renamed k n h.0, all_nowhere k ns h.1)

  still_other : (n : ℕ) (ns : List ℕ) → AllByRecursion (λ m. n ≢ m) ns → AllByRecursion (λ m. f n ≢ m) (map f ns)
  still_other n [] h = tt
  still_other n (m ∷ ns) h = (λ e. h.0 (same_number n m e), still_other n ns h.1)

  still_different : (ns : List ℕ) → AllDifferent ns → AllDifferent (map f ns)
  still_different [] h = tt
  still_different (n ∷ ns) h = (still_other n ns h.0, still_different ns h.1)

  news_still : (e : Edit) → news (renamed_edit f e) ≡ news e
  news_still (Make_directory d x i) = refl
  news_still (Make_file d x i) = refl
  news_still (Make_fixed d x fixed i) = refl
  news_still (Name_file d x n) = refl
  news_still (Unname_file d x n) = refl
  news_still (Unname_directory d x n) = refl
  news_still (Move d x e y n replaced) = refl
  news_still (Swap d x n e y m) = refl
  news_still (Put_bytes n place bytes before) = refl
  news_still (Wipe n place count) = refl
  news_still (Cut n before after) = refl
  news_still (Take p count) = refl
  news_still (Append p bytes) = refl
  news_still (Set_offset d place) = refl
  news_still (Set_rights n set) = refl
  news_still (Open_inode i inode mode pid fd) = refl
  news_still (Make_pipe i pid reader writer) = refl
  news_still (Share_slot pid fd d pipes) = refl
  news_still (Clear_slot pid fd pipes) = refl
  news_still (New_process child parent pipes) = refl
  news_still (End_process pid pipes) = refl

  all_news : (es : List Edit) → sum_by news (map (renamed_edit f) es) ≡ sum_by news es
  all_news [] = refl
  all_news (e ∷ es) = sum_by-cons news (renamed_edit f e) (map (renamed_edit f) es) ∙ ap₂ (λ (x : ℕ) (y : ℕ). x + y) (news_still e) (all_news es) ∙ sym (sum_by-cons news e es)

  chosen_renamed : (k : Kernel) (es : List Edit) (chosen : List ℕ) → CanBeChosen k es chosen → CanBeChosen (renamed f k) (map (renamed_edit f) es) (map f chosen)
  chosen_renamed k es chosen h = record {
    count = length-map chosen f ∙ h.count ∙ sym (all_news es);
    unused = all_nowhere k chosen h.unused;
    different = still_different chosen h.different;
  }

  pub step_renamed : (k : Kernel) → SlotsAreThere k → (it : Item) (after : Kernel) → Step k it.pid it.call it.answer it.chosen after
      → Step (renamed f k) it.pid it.call (renamed_item f it).answer (renamed_item f it).chosen (renamed f after) × SlotsAreThere after
  step_renamed k slots it after step =
      let es : List Edit = edits k it.pid it.call in
      let call = calls_are_renamed f r k slots it.pid it.call in
      let sound = edits_sound k (outcome k it.pid it.call) (call_sound k slots it.pid it.call) in
      let numbers : AllByRecursion (HasNumbers (length it.chosen)) es = subst (λ count. AllByRecursion (HasNumbers count) es) (sym step.numbers.count) sound.numbers in (
        record {
          replied = ap (mapped_ok (renamed_answer f)) step.replied ∙ sym call.reply;
          numbers = subst (λ es. CanBeChosen (renamed f k) es (map f it.chosen)) (sym call.edits) (chosen_renamed k es it.chosen step.numbers);
          changed = ap (renamed f) step.changed ∙ sym (tidy_renamed f r (all_applied it.chosen es k)) ∙ ap tidy (sym (edits_renamed f r k it.chosen es numbers))
              ∙ ap (λ es. tidy (all_applied (map f it.chosen) es (renamed f k))) (sym call.edits);
        },
        subst SlotsAreThere (sym step.changed) (tidying_keeps (all_applied it.chosen es k) (edits_keep it.chosen k es sound.shares slots)),
      )

  pub run_renamed : (k : Kernel) → SlotsAreThere k → (items : List Item) (after : Kernel) → Run k items after → Run (renamed f k) (map (renamed_item f) items) (renamed f after)
  run_renamed k slots [] after run = ap (renamed f) run
  run_renamed k slots (it ∷ items) after run =
      let first = step_renamed k slots it run.0 run.1 in
      (renamed f run.0, first.0, run_renamed run.0 first.1 items after run.2)

  pub slots_after : (k : Kernel) → SlotsAreThere k → (items : List Item) (after : Kernel) → Run k items after → SlotsAreThere after
  slots_after k slots [] after run = subst SlotsAreThere (sym run) slots
  slots_after k slots (it ∷ items) after run = slots_after run.0 (step_renamed k slots it run.0 run.1).1 items after run.2

pub runs_are_renamed : (f : ℕ → ℕ) → IsRenaming f → RunsAreRenamed f
runs_are_renamed f r = record { nowhere = nowhere_renamed f r; chosen = chosen_renamed f r; step = step_renamed f r; run = run_renamed f r }
