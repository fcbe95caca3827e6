-- What becomes of the lists of calls at one right entry: they stay, run on the committed state, or go.
use Rattle.std.proofs.Common.{◌≡◌, ℕ, List, [], ◌∷◌, Some, None, Result, refl, sym, ◌∙◌, ap, subst, inl, inr}
use Rattle.std.proofs.lemmas.Bool.{cases_Bool, cases_eq}
use Rattle.model.specs.State.{Kernel}
use Rattle.model.specs.Plan.{Errno}
use Rattle.model.specs.Changes.{tidy}
use Rattle.model.specs.Calls.{Answer}
use Rattle.model.specs.Entries.{BeginFlags, Begin, Reply, Begun, Committed, Entry, Executed, answer_in}
use Rattle.model.specs.Moments.{idle, Moment, status, after_one, after_list, run_by, plain_calls, calls_of, calls_at, is_in, next}
use Rattle.call_laws.specs.CallLaws.{CallLaws}
use Rattle.model.specs.Effects.{effects, all_done}
use Rattle.history_laws.specs.Entered.{view, ListStays, PlainCallsRun}
use Rattle.history_laws.proofs.lists.UntidiedRuns.{loose, Goes}
use Rattle.history_laws.proofs.lists.LiveLists.{SameList, Spared, stands_on}
use Rattle.history_laws.proofs.entries.Moments.{Sound, calls_doomed, held_is}
use Rattle.history_laws.proofs.entries.ExecutedCalls.{executed, plain_same, plain_idle, pushed_same, plain_goes, plain_spared, end_spared, end_same}
use Rattle.history_laws.proofs.entries.Kinds.{Kind, Changes, Pushes, Commits, Begins, Settles, Rests}
use Rattle.history_laws.proofs.entries.Phases.{ended_phase}

-- an executed plain call is its edits
pub plain_calls_run : PlainCallsRun
plain_calls_run m e call answer is_s is_op is_answer = ap (λ es. after_list e.pid es m.committed) (ap (λ x. run_by x e.op e.reply e.chosen) is_s ∙ ap (λ x. run_by idle x e.reply e.chosen) is_op ∙ ap (λ o. plain_calls call o e.chosen) is_answer)

-- a list done untidied is its effects
pub loose_done : (pid : ℕ) (es : List Executed) (k : Kernel) → loose pid es k ≡ all_done (effects pid es k) k
loose_done pid [] k = refl
loose_done pid (e ∷ es) k = loose_done pid es (after_one pid e k)

abbrev Stays : Kernel → Kernel → ℕ → List Executed → List Executed → Type 0
Stays k l q es fs = fs ≡ es → SameList k l q es fs

-- no calls stay no calls
stays_empty : (k l : Kernel) (q : ℕ) (es fs : List Executed) → fs ≡ [] → Stays k l q es fs
stays_empty k l q es fs none same =
    subst (λ xs. SameList k l q xs fs) same (subst (λ xs. SameList k l q xs xs) (sym none) (refl, refl))

-- and on the same state all stay
stays_still : (k l : Kernel) (q : ℕ) (es fs : List Executed) → l ≡ k → Stays k l q es fs
stays_still k l q es fs still same = subst (λ xs. SameList k l q xs fs) same (subst (λ x. SameList k x q fs fs) (sym still) (refl, refl))

pub begun_still : (m : Moment) (e : Entry) (flags : BeginFlags) → status m e.pid ≡ idle → e.op ≡ Begin flags → e.reply ≡ Begun → (next m e).committed ≡ m.committed
begun_still m e flags is_s is_op is_reply = ap (λ es. after_list e.pid es m.committed) (ap (λ x. run_by x e.op e.reply e.chosen) is_s ∙ ap (λ x. run_by idle x e.reply e.chosen) is_op)

answered_no_commit : (said : Reply) (answer : Result Answer Errno) → answer_in said ≡ Some answer → said ≡ Committed → ⊥
answered_no_commit said answer h is = nothing (sym (ap answer_in is) ∙ h) where
  nothing : None ≡ Some answer → ⊥
  nothing e = absurd cc

begun_no_commit : Begun ≡ Committed → ⊥
begun_no_commit h = absurd cc

module _ (Well : Kernel → Type 0) (laws : CallLaws Well) (m : Moment) (e : Entry) (sound : Sound Well m) where
  stays_spared : (p : ℕ) (es : List Executed) (q : ℕ) → Goes Well m.committed p es → Spared m.committed p es q (calls_at m q) → (next m e).committed ≡ tidy (loose p es m.committed) → Stays m.committed (next m e).committed q (calls_at m q) (calls_at (next m e) q)
  stays_spared p es q goes spared is same =
      let stands = stands_on Well laws m.committed p es q (calls_at m q) sound.lists.well goes (sound.lists.goes q) (sound.lists.inside q) (sound.lists.fresh q) spared in
      subst (λ xs. SameList m.committed (next m e).committed q (calls_at m q) xs) (sym same) (subst (λ k. SameList m.committed k q (calls_at m q) (calls_at m q)) (sym is) (stands.same refl))

  -- each list that is left as it was, by what the entry is
  pub list_stays : Kind m e → (q : ℕ) → Stays m.committed (next m e).committed q (calls_at m q) (calls_at (next m e) q)
  list_stays (Changes call is_s is_op taken) q = elim (cases_eq q e.pid) [
    | inl own ↦ stays_empty _ _ q _ _ (ap (calls_at (next m e)) own ∙ ap calls_of (plain_idle m e call taken is_s))
    | inr ne ↦ elim (cases_Bool (is_in q e.doomed)) [
      | inl is_doomed ↦ stays_empty _ _ q _ _ (calls_doomed m e q is_doomed)
      | inr free ↦ stays_spared e.pid (executed m e call taken ∷ []) q (plain_goes Well laws m e call sound taken is_s) (plain_spared Well laws m e call sound taken is_s q ne free) (plain_same m e call taken is_s is_op)
    ]
  ]
  list_stays (Pushes flags age calls call is_s is_op inside taken) q = stays_still _ _ q _ _ (pushed_same m e call taken flags age calls is_s is_op)
  list_stays (Commits flags age calls is_s is_op is_reply alone) q = elim (cases_eq q e.pid) [
    | inl own ↦ stays_empty _ _ q _ _ (ap (calls_at (next m e)) own ∙ ap calls_of (ended_phase m e is_reply alone))
    | inr ne ↦ stays_spared e.pid (calls_at m e.pid) q (sound.lists.goes e.pid) (end_spared Well m e.pid sound q ne) (end_same Well laws m e flags age calls sound is_s is_op is_reply)
  ]
  list_stays (Begins flags is_s is_op is_reply alone) q = stays_still _ _ q _ _ (begun_still m e flags is_s is_op is_reply)
  list_stays (Settles s again is_phase holds some left) q = stays_still _ _ q _ _ left.committed
  list_stays (Rests some left) q = stays_still _ _ q _ _ left.committed

  pub stays_after : Sound Well (next m e) → Kind m e → (q : ℕ) → calls_at (next m e) q ≡ calls_at m q → ListStays m e q
  stays_after later is q same =
      let kept = list_stays is q same in
      record { held = held_is Well laws (next m e) later q ∙ kept.0 ∙ sym (held_is Well laws m sound q); effects = kept.1 }

  -- a committed end runs the list
  pub commit_runs : Kind m e → e.reply ≡ Committed → (next m e).committed ≡ tidy (view m e.pid)
  commit_runs (Changes call is_s is_op taken) said = absurd (answered_no_commit e.reply _ taken.answer said)
  commit_runs (Pushes flags age calls call is_s is_op inside taken) said = absurd (answered_no_commit e.reply _ taken.answer said)
  commit_runs (Commits flags age calls is_s is_op is_reply alone) said = end_same Well laws m e flags age calls sound is_s is_op is_reply
  commit_runs (Begins flags is_s is_op is_reply alone) said = absurd (begun_no_commit (sym is_reply ∙ said))
  commit_runs (Settles s again is_phase holds some left) said = absurd (left.uncommitted said)
  commit_runs (Rests some left) said = absurd (left.uncommitted said)
