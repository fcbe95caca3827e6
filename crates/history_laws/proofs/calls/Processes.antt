-- What calls do to the table of processes.
use Rattle.std.proofs.Common.{◌≡◌, ◌≢◌, ℕ, suc, ◌+◌, List, [], ◌∷◌, Option, Some, None, Result, Ok, Err, IfOk, is_some, refl, sym, ◌∙◌, ap, true, false, Bool, ◌⊎◌, inl, inr, nat_le, arith}
use Rattle.std.specs.Prelude.{if◌then◌else◌}
use Rattle.std.specs.List.{AllByRecursion}
use Rattle.std.proofs.lemmas.Bool.{cases_Bool, cases_eq, false≢true}
use Rattle.model.specs.FiniteMap.{get, insert, remove, get-remove}
use Rattle.model.specs.State.{Kernel, Description, Process}
use Rattle.model.specs.Plan.{Errno, EAGAIN, given, refuse_if, ◌>>◌}
use Rattle.model.specs.Changes.{Edit, Make_directory, Make_file, Make_fixed, Name_file, Unname_file, Unname_directory, Swap, Wipe, Move, Put_bytes, Cut, Take, Append, Set_offset, Set_rights, Open_inode, Make_pipe, Share_slot, Clear_slot, New_process, End_process, set_offset, process_of, or_new, with_slot, without_slot, applied, all_applied, tidy, number, Made, to_read, open_at, set_inode}
use Rattle.model.specs.Calls.{own, Call, Fork, Exit, Answer, Child}
use Rattle.model.specs.Plans.{Change, plan, changed, pipes_in}
use Rattle.model.specs.Steps.{outcome, reply, reply_of, edits, edits_of}
use Rattle.model.specs.Entries.{Executed, is_inside}
use Rattle.model.specs.Moments.{is_alive, after_one, loose}
use Rattle.model.proofs.Laws.{get_same, get_other, apart}
use Rattle.std.specs.Cmp.{nat_cmp_total, tied_itself}
use Rattle.std.specs.Ordering.{is_eq}
use Rattle.history_laws.specs.Processes.{is_exit}
use Rattle.history_laws.proofs.calls.Outcomes.{IsOf, is_child, Tame, tame_plan, ends_given}
use Rattle.history_laws.proofs.lists.UntidiedRuns.{AllInside}

abbrev pub priority_in : Kernel → ℕ → ℕ
priority_in k q = (process_of k q).priority

-- the same processes, each with its priority
pub record SameProcesses (k l : Kernel) : Type 0 where
  pub made : l.made ≡ k.made
  pub alive : (q : ℕ) → is_alive l q ≡ is_alive k q
  pub priority : (q : ℕ) → priority_in l q ≡ priority_in k q

pub same_self : (k : Kernel) → SameProcesses k k
same_self k = record { made = refl; alive = λ q. refl; priority = λ q. refl }

pub same_through : (k l n : Kernel) → SameProcesses k l → SameProcesses l n → SameProcesses k n
same_through k l n h g = record { made = g.made ∙ h.made; alive = λ q. g.alive q ∙ h.alive q; priority = λ q. g.priority q ∙ h.priority q }

-- a living process's table changes
slot_kept : (k l : Kernel) (pid : ℕ) (p : Process) → l.made ≡ k.made → l.processes ≡ insert k.processes pid p → p.priority ≡ priority_in k pid → is_alive k pid ≡ true → SameProcesses k l
slot_kept k l pid p made is same alive = record {
  made = made;
  alive = λ q. ap (λ m. is_some (get m q)) is ∙ elim (cases_eq q pid) [
    | inl e ↦ ap (λ q. is_some (get (insert k.processes pid p) q)) e ∙ ap is_some (get_same k.processes pid p) ∙ sym alive ∙ ap (is_alive k) (sym e)
    | inr ne ↦ ap is_some (get_other k.processes pid q p ne)
  ];
  priority = λ q. ap (λ m. (or_new (get m q)).priority) is ∙ elim (cases_eq q pid) [
    | inl e ↦ ap (λ q. (or_new (get (insert k.processes pid p) q)).priority) e ∙ ap (λ o. (or_new o).priority) (get_same k.processes pid p) ∙ same ∙ ap (priority_in k) (sym e)
    | inr ne ↦ ap (λ o. (or_new o).priority) (get_other k.processes pid q p ne)
  ];
}

offset_same : (d place : ℕ) (o : Option Description) (k : Kernel) → SameProcesses k (set_offset d place o k)
offset_same d place (Some old) k = record { made = refl; alive = λ q. refl; priority = λ q. refl }
offset_same d place None k = same_self k

pub edit_same : (chosen : List ℕ) (pid : ℕ) (e : Edit) (k : Kernel) → IsOf pid e → is_alive k pid ≡ true → SameProcesses k (applied chosen e k)
unfolding applied
edit_same chosen pid (Make_directory d x i) k h alive = record { made = refl; alive = λ q. refl; priority = λ q. refl }
edit_same chosen pid (Make_file d x i) k h alive = record { made = refl; alive = λ q. refl; priority = λ q. refl }
edit_same chosen pid (Make_fixed d x fixed i) k h alive = record { made = refl; alive = λ q. refl; priority = λ q. refl }
edit_same chosen pid (Name_file d x n) k h alive = record { made = refl; alive = λ q. refl; priority = λ q. refl }
edit_same chosen pid (Unname_file d x n) k h alive = record { made = refl; alive = λ q. refl; priority = λ q. refl }
edit_same chosen pid (Unname_directory d x n) k h alive = record { made = refl; alive = λ q. refl; priority = λ q. refl }
edit_same chosen pid (Move d x e y n replaced) k h alive = record { made = refl; alive = λ q. refl; priority = λ q. refl }
edit_same chosen pid (Swap d x n e y m) k h alive = record { made = refl; alive = λ q. refl; priority = λ q. refl }
edit_same chosen pid (Put_bytes n place bytes before) k h alive = record { made = refl; alive = λ q. refl; priority = λ q. refl }
edit_same chosen pid (Wipe n place count) k h alive = record { made = refl; alive = λ q. refl; priority = λ q. refl }
edit_same chosen pid (Cut n before after) k h alive = record { made = refl; alive = λ q. refl; priority = λ q. refl }
edit_same chosen pid (Take p count) k h alive = record { made = refl; alive = λ q. refl; priority = λ q. refl }
edit_same chosen pid (Append p bytes) k h alive = record { made = refl; alive = λ q. refl; priority = λ q. refl }
edit_same chosen pid (Set_offset d place) k h alive = offset_same d place (get k.descriptions d) k
edit_same chosen pid (Set_rights n rights) k h alive = record { made = refl; alive = λ q. refl; priority = λ q. refl }
edit_same chosen pid (Open_inode i inode mode p f) k h alive = slot_kept k _ p (with_slot f (number chosen (Made i)) (process_of k p)) refl refl refl (ap (is_alive k) h ∙ alive)
edit_same chosen pid (Make_pipe i p f g) k h alive =
    let lives : is_alive k p ≡ true = ap (is_alive k) h ∙ alive in
    let first = slot_kept k (open_at (number chosen (Made (i + 1))) (number chosen (Made i)) to_read p f (set_inode (number chosen (Made i)) (Rattle.model.specs.State.Pipe []) k)) p (with_slot f (number chosen (Made (i + 1))) (process_of k p)) refl refl refl lives in
    same_through k _ _ first (slot_kept _ _ p _ refl refl refl (first.alive p ∙ lives))
edit_same chosen pid (Share_slot p f d pipes) k h alive = slot_kept k _ p (with_slot f d (process_of k p)) refl refl refl (ap (is_alive k) h ∙ alive)
edit_same chosen pid (Clear_slot p f pipes) k h alive = slot_kept k _ p (without_slot f (process_of k p)) refl refl refl (ap (is_alive k) h ∙ alive)
edit_same chosen pid (New_process child parent pipes) k h alive = absurd h
edit_same chosen pid (End_process p pipes) k h alive = absurd h

edits_same : (chosen : List ℕ) (pid : ℕ) (es : List Edit) (k : Kernel) → AllByRecursion (IsOf pid) es → is_alive k pid ≡ true → SameProcesses k (all_applied chosen es k)
edits_same chosen pid [] k h alive = same_self k
edits_same chosen pid (e ∷ es) k h alive =
    let here = edit_same chosen pid e k h.0 alive in
    same_through k (applied chosen e k) _ here (edits_same chosen pid es (applied chosen e k) h.1 (here.alive pid ∙ alive))

tame_outcome : (k : Kernel) (pid : ℕ) (call : Call) → is_inside call ≡ true → IfOk (outcome k pid call) (Tame pid)
tame_outcome k pid call inside = ends_given k (Tame pid) (plan (own k pid call) call) (tame_plan (own k pid call) call inside)

-- a call but fork and exit leaves the processes as they are
pub inside_same : (k : Kernel) (pid : ℕ) (call : Call) (chosen : List ℕ) → is_inside call ≡ true → is_alive k pid ≡ true → SameProcesses k (all_applied chosen (edits k pid call) k)
inside_same k pid call chosen inside alive = by (outcome k pid call) (tame_outcome k pid call inside) where
  by : (r : Result Change Errno) → IfOk r (Tame pid) → SameProcesses k (all_applied chosen (edits_of r) k)
  by (Ok change) tame = edits_same chosen pid change.edits k tame.edits alive
  by (Err e) tame = same_self k

pub loose_same : (pid : ℕ) (es : List Executed) (k : Kernel) → AllInside es → is_alive k pid ≡ true → SameProcesses k (loose pid es k)
loose_same pid [] k inside alive = same_self k
loose_same pid (e ∷ es) k inside alive =
    let here = inside_same k pid e.call e.chosen inside.0 alive in
    same_through k (after_one pid e k) _ here (loose_same pid es (after_one pid e k) inside.1 (here.alive pid ∙ alive))

pub tidied_same : (k : Kernel) → SameProcesses k (tidy k)
unfolding tidy
tidied_same k = record { made = refl; alive = λ q. refl; priority = λ q. refl }

-- the child of an answer
abbrev pub child_of : Result Answer Errno → Option ℕ
child_of (Ok (Child pid)) = Some pid
child_of _ = None

abbrev pub born_of : Result Answer Errno → ℕ
born_of (Ok (Child pid)) = 1
born_of _ = 0

childless_answer : (a : Answer) → is_child a ≡ false → child_of (Ok a) ≡ None
childless_answer (Child pid) h = absurd (false≢true (sym h))
childless_answer a h = refl

pub inside_childless : (k : Kernel) (pid : ℕ) (call : Call) → is_inside call ≡ true → child_of (reply k pid call) ≡ None
inside_childless k pid call inside = by (outcome k pid call) (tame_outcome k pid call inside) where
  by : (r : Result Change Errno) → IfOk r (Tame pid) → child_of (reply_of r) ≡ None
  by (Ok change) tame = childless_answer change.reply tame.childless
  by (Err e) tame = refl

pub born_none : (r : Result Answer Errno) → child_of r ≡ None → born_of r ≡ 0
born_none (Ok (Child pid)) h = absurd cc
born_none (Ok a) h = refl
born_none (Err e) h = refl

-- what a call of a living process does to the processes
pub record CallMoves (k : Kernel) (pid : ℕ) (call : Call) (answer : Result Answer Errno) (l : Kernel) : Type 0 where
  pub made : l.made ≡ k.made + born_of answer
  pub child : (p : ℕ) → child_of answer ≡ Some p → (p ≡ suc k.made) × (is_alive l p ≡ true) × (priority_in l p ≡ priority_in k pid)
  pub ended : is_exit call ≡ true → is_alive l pid ≡ false
  pub others : (q : ℕ) → child_of answer ≢ Some q → (is_exit call ≡ false) ⊎ (q ≢ pid) → (is_alive l q ≡ is_alive k q) × (priority_in l q ≡ priority_in k q)

no_child : (p : ℕ) {A : Type 0} → ◌≡◌ {A = Option ℕ} None (Some p) → A
no_child p h = absurd cc

inside_no_exit : (call : Call) → is_inside call ≡ true → is_exit call ≡ false
inside_no_exit Exit h = absurd (false≢true h)
inside_no_exit call h = refl

-- where the processes are the same, and the answer is no child's
moves_not : (k : Kernel) (pid : ℕ) (call : Call) (answer : Result Answer Errno) (l : Kernel) → child_of answer ≡ None → is_exit call ≡ false → SameProcesses k l → CallMoves k pid call answer l
moves_not k pid call answer l none stays same = record {
  made = same.made ∙ (let n : born_of answer ≡ 0 = born_none answer none in let m = k.made in omega arith);
  child = λ p h. no_child p (sym none ∙ h);
  ended = λ h. absurd (false≢true (sym stays ∙ h));
  others = λ q ne free. (same.alive q, same.priority q);
}

removed : (k : Kernel) (pid q : ℕ) → q ≢ pid → get (remove k.processes pid) q ≡ get k.processes q
removed k pid q ne = get-remove nat_cmp_total k.processes pid q ∙ ap (λ b. if b then None else get k.processes q) (apart q pid ne)

removed_itself : (k : Kernel) (pid : ℕ) → get (remove k.processes pid) pid ≡ None
removed_itself k pid = get-remove nat_cmp_total k.processes pid pid ∙ ap (λ r. if is_eq r then None else get k.processes pid) (tied_itself nat_cmp_total pid)

exit_moves : (k : Kernel) (pid : ℕ) (chosen : List ℕ) → CallMoves k pid Exit (reply k pid Exit) (all_applied chosen (edits k pid Exit) k)
unfolding applied
exit_moves k pid chosen = record {
  made = (let m = k.made in omega arith);
  child = λ p h. no_child p h;
  ended = λ h. ap is_some (removed_itself k pid);
  others = λ q none free. elim free [
    | inl stays ↦ absurd (false≢true (sym stays))
    | inr ne ↦ (ap is_some (removed k pid q ne), ap (λ o. (or_new o).priority) (removed k pid q ne))
  ];
}

forked_moves : (k : Kernel) (pid : ℕ) (pipes : List ℕ) (chosen : List ℕ) → CallMoves k pid Fork (Ok (Child (suc k.made))) (all_applied chosen (New_process (suc k.made) pid pipes ∷ []) k)
unfolding applied
forked_moves k pid pipes chosen = record {
  made = (let m = k.made in omega arith);
  child = λ p h. elim (cases_eq p (suc k.made)) [
    | inl e ↦ (
      e,
      ap (λ q. is_some (get (insert k.processes (suc k.made) (process_of k pid)) q)) e ∙ ap is_some (get_same k.processes (suc k.made) (process_of k pid)),
      ap (λ q. (or_new (get (insert k.processes (suc k.made) (process_of k pid)) q)).priority) e ∙ ap (λ o. (or_new o).priority) (get_same k.processes (suc k.made) (process_of k pid)),
    )
    | inr ne ↦ absurd (ne (sym (ap (λ o. number_or p o) h)))
  ];
  ended = λ h. absurd (false≢true h);
  others = λ q none free. elim (cases_eq q (suc k.made)) [
    | inl e ↦ absurd (none (ap Some (sym e)))
    | inr ne ↦ (ap is_some (get_other k.processes (suc k.made) q (process_of k pid) ne), ap (λ o. (or_new o).priority) (get_other k.processes (suc k.made) q (process_of k pid) ne))
  ];
} where
  number_or : ℕ → Option ℕ → ℕ
  number_or other (Some p) = p
  number_or other None = other

fork_moves : (k : Kernel) (pid : ℕ) (chosen : List ℕ) → CallMoves k pid Fork (reply k pid Fork) (all_applied chosen (edits k pid Fork) k)
fork_moves k pid chosen = by (nat_le 4096 k.made) where
  by : (b : Bool) → CallMoves k pid Fork (reply_of (given k (refuse_if b EAGAIN >> changed (Child (suc k.made)) (New_process (suc k.made) pid (pipes_in (own k pid Fork)) ∷ []))))
      (all_applied chosen (edits_of (given k (refuse_if b EAGAIN >> changed (Child (suc k.made)) (New_process (suc k.made) pid (pipes_in (own k pid Fork)) ∷ [])))) k)
  by true = moves_not k pid Fork (Err EAGAIN) k refl refl (same_self k)
  by false = forked_moves k pid (pipes_in (own k pid Fork)) chosen

pub call_moves : (k : Kernel) (pid : ℕ) (call : Call) (chosen : List ℕ) → is_alive k pid ≡ true → CallMoves k pid call (reply k pid call) (all_applied chosen (edits k pid call) k)
call_moves k pid call chosen alive = elim (cases_Bool (is_inside call)) [
  | inl inside ↦ moves_not k pid call (reply k pid call) _ (inside_childless k pid call inside) (inside_no_exit call inside) (inside_same k pid call chosen inside alive)
  | inr out ↦ outside call out
] where
  outside : (c : Call) → is_inside c ≡ false → CallMoves k pid c (reply k pid c) (all_applied chosen (edits k pid c) k)
  outside Fork out = fork_moves k pid chosen
  outside Exit out = exit_moves k pid chosen
  outside c out = absurd (false≢true (sym out))
