-- Executed calls and commits keep the moment sound.
use Rattle.std.proofs.Common.{◌≡◌, ◌≢◌, ℕ, ◌+◌, ◌≤◌, List, [], ◌∷◌, ◌++◌, Some, Result, refl, sym, ◌∙◌, ap, subst, true, false, Bool, ◌⊎◌, inl, inr, eqb, arith, cond}
use Rattle.std.specs.Prelude.{◌&&◌, filter, not}
use Rattle.std.proofs.lemmas.Bool.{cases_Bool, cases_eq, and_left, not_from_true, both_ways, false≢true, eq-eqb, ne_eqb}
use Rattle.model.specs.State.{Kernel}
use Rattle.model.specs.Plan.{Errno}
use Rattle.model.specs.Changes.{tidy}
use Rattle.model.specs.Calls.{Call, Answer}
use Rattle.model.specs.Steps.{touches, reply, edits, IsNowhere, CanBeChosen}
use Rattle.model.specs.Laws.{GoesTheSame}
use Rattle.model.specs.Entries.{BeginFlags, Op, Do, End, Reply, Answers, Refuses, Begun, Committed, GivenUp, Aborted, Busy, InTransaction, NotInTransaction, HistoryFull, NoMemory, NoProcess, Entry, Executed, answer_in, is_inside}
use Rattle.model.specs.Clashes.{any_clash}
use Rattle.model.specs.Moments.{Status, idle, live, Moment, status, is_alive, after_list, numbers, calls_of, calls_at, seen_by, held_by, counted, counted_touches, bound, clashes_with, with_call, own_next, is_in, run_by, plain_calls, next}
use Rattle.model.specs.Legal.{Alone, IsApart, Taken}
use Rattle.call_laws.specs.CallLaws.{IsReady, CallLaws}
use Rattle.history_laws.proofs.Membership.{In, In-cases, In-filter, all_to, is_in_in, in_either}
use Rattle.history_laws.proofs.lists.Touches.{written, NoClash, no_clash}
use Rattle.history_laws.proofs.lists.UntidiedRuns.{loose, loose_touches, Goes, can_again, goes_well, goes_alive, goes_nowhere}
use Rattle.history_laws.proofs.lists.LiveLists.{SoundOf, Spared, kept, committed, Pushes, pushed}
use Rattle.history_laws.proofs.entries.Moments.{below_passes, below_complete, Sound, phase_other, phase_own, calls_doomed, phase_is, alive_is, seen_is, held_is}

-- an executed call goes into the list
pub answered : (place : ℕ) (s : Status) (op : Op) (said : Reply) (chosen : List ℕ) (answer : Result Answer Errno) → answer_in said ≡ Some answer → own_next place s op said chosen ≡ with_call s op (Some answer) chosen
answered place s op (Answers a) chosen answer h = ap (λ o. with_call s op o chosen) h
answered place s op (Refuses e) chosen answer h = ap (λ o. with_call s op o chosen) h
answered place s op Begun chosen answer h = absurd cc
answered place s op Committed chosen answer h = absurd cc
answered place s op (GivenUp again) chosen answer h = absurd cc
answered place s op (Aborted why again) chosen answer h = absurd cc
answered place s op (Busy cause) chosen answer h = absurd cc
answered place s op InTransaction chosen answer h = absurd cc
answered place s op NotInTransaction chosen answer h = absurd cc
answered place s op HistoryFull chosen answer h = absurd cc
answered place s op NoMemory chosen answer h = absurd cc
answered place s op NoProcess chosen answer h = absurd cc

not_second : (a b : Bool) → a ≡ false → (not a && b) ≡ false → b ≡ false
not_second true b f h = absurd (false≢true (sym f))
not_second false b f h = h

module _ (m : Moment) (e : Entry) (call : Call) (taken : Taken m e call) where
  -- nobody dooms itself
  pub not_itself : is_in e.pid e.doomed ≡ false
  not_itself = elim (cases_Bool (is_in e.pid e.doomed)) [
    | inr f ↦ f
    | inl h ↦ absurd (both_ways (clashes_with m e.pid (counted_touches m e.pid call) e.pid)
        (and_left (not (eqb e.pid e.pid)) (any_clash (counted_touches m e.pid call) (held_by m e.pid)) (not_from_true (eqb e.pid e.pid) (eq-eqb e.pid e.pid refl)))
        (below_passes (clashes_with m e.pid (counted_touches m e.pid call)) (bound m) e.pid (sym (ap (is_in e.pid) taken.doomed) ∙ h)))
  ]

  abbrev pub executed : Executed
  executed = record { call = call; answer = reply (seen_by m e.pid) e.pid call; chosen = e.chosen }

  -- a plain call
  pub plain_phase : status m e.pid ≡ idle → m.phase e.pid ≡ idle
  plain_phase is_s = phase_is m e.pid idle is_s (λ h. absurd cc)

  pub plain_seen : status m e.pid ≡ idle → seen_by m e.pid ≡ m.committed
  plain_seen is_s = ap (λ s. after_list e.pid (calls_of s) m.committed) (plain_phase is_s)

  pub plain_same : status m e.pid ≡ idle → e.op ≡ Do call → (next m e).committed ≡ after_list e.pid (executed ∷ []) m.committed
  plain_same is_s is_op = ap (λ es. after_list e.pid es m.committed) (ap (λ x. run_by x e.op e.reply e.chosen) is_s ∙ ap (λ x. run_by idle x e.reply e.chosen) is_op ∙ ap (λ o. plain_calls call o e.chosen) taken.answer)

  pub plain_idle : status m e.pid ≡ idle → (next m e).phase e.pid ≡ idle
  plain_idle is_s = phase_own m e not_itself ∙ answered (m.entries + 1) (m.phase e.pid) e.op e.reply e.chosen (reply (seen_by m e.pid) e.pid call) taken.answer
      ∙ ap (λ s. with_call s e.op (Some (reply (seen_by m e.pid) e.pid call)) e.chosen) (plain_phase is_s)

  -- a call of a live transaction
  pub pushed_phase : (flags : BeginFlags) (age : ℕ) (calls : List Executed) → status m e.pid ≡ live flags age calls → e.op ≡ Do call → (next m e).phase e.pid ≡ live flags age (calls_at m e.pid ++ executed ∷ [])
  pushed_phase flags age calls is_s is_op =
      let is_phase : m.phase e.pid ≡ live flags age calls = phase_is m e.pid (live flags age calls) is_s (λ h. absurd cc) in
      phase_own m e not_itself ∙ answered (m.entries + 1) (m.phase e.pid) e.op e.reply e.chosen (reply (seen_by m e.pid) e.pid call) taken.answer
      ∙ ap (λ s. with_call s e.op (Some (reply (seen_by m e.pid) e.pid call)) e.chosen) is_phase
      ∙ ap (λ o. with_call (live flags age calls) o (Some (reply (seen_by m e.pid) e.pid call)) e.chosen) is_op
      ∙ ap (λ es. live flags age (es ++ executed ∷ [])) (sym (ap calls_of is_phase))

  pub pushed_same : (flags : BeginFlags) (age : ℕ) (calls : List Executed) → status m e.pid ≡ live flags age calls → e.op ≡ Do call → (next m e).committed ≡ m.committed
  pushed_same flags age calls is_s is_op = ap (λ es. after_list e.pid es m.committed) (ap (λ x. run_by x e.op e.reply e.chosen) is_s ∙ ap (λ x. run_by (live flags age calls) x e.reply e.chosen) is_op)

module _ (Well : Kernel → Type 0) (laws : CallLaws Well) (m : Moment) (e : Entry) (call : Call) (sound : Sound Well m) (taken : Taken m e call) where
  -- one that is not doomed does not clash with the caller's counted touches
  pub spared : (q : ℕ) → q ≢ e.pid → is_in q e.doomed ≡ false → NoClash (counted_touches m e.pid call) (loose_touches q (calls_at m q) m.committed)
  spared q ne free = by_list (calls_at m q) refl where
    by_list : (es : List Executed) → calls_at m q ≡ es → NoClash (counted_touches m e.pid call) (loose_touches q (calls_at m q) m.committed)
    by_list [] is = λ t u i j. absurd (subst (λ es. In u (loose_touches q es m.committed)) is j)
    by_list (d ∷ ds) is =
        let goes : Goes Well m.committed q (d ∷ ds) = subst (Goes Well m.committed q) is (sound.lists.goes q) in
        let low : q ≤ m.committed.made = laws.alive_counted m.committed sound.lists.well q goes.0.0.alive in
        subst (λ us. NoClash (counted_touches m e.pid call) us) (held_is Well laws m sound q)
        (no_clash (counted_touches m e.pid call) (held_by m q) (not_second (eqb q e.pid) _ (ne_eqb q e.pid ne)
        (below_complete (clashes_with m e.pid (counted_touches m e.pid call)) (bound m) q (sym (ap (is_in q) taken.doomed) ∙ free) (omega arith))))

  -- a new number is in no list that stays
  pub chosen_apart : (n : ℕ) → is_in n e.chosen ≡ true → IsApart m e n
  chosen_apart n h = all_to (IsApart m e) e.chosen taken.apart n (is_in_in n e.chosen h)

  plain_ready : status m e.pid ≡ idle → IsReady Well m.committed e.pid call e.chosen
  plain_ready is_s = record { well = sound.lists.well; alive = alive_is m e.pid idle is_s (λ h. absurd cc); numbers = subst (λ k. CanBeChosen k (edits k e.pid call) e.chosen) (plain_seen m e call taken is_s) taken.chosen }

  pub plain_goes : status m e.pid ≡ idle → Goes Well m.committed e.pid (executed m e call taken ∷ [])
  plain_goes is_s = ((plain_ready is_s, ap (λ k. reply k e.pid call) (plain_seen m e call taken is_s)), tt)

  counted_is : status m e.pid ≡ idle → counted_touches m e.pid call ≡ filter (λ t. t.write) (touches m.committed e.pid call)
  counted_is is_s = ap (λ s. counted s (touches (seen_by m e.pid) e.pid call)) (plain_phase m e call taken is_s) ∙ ap (λ k. filter (λ t. t.write) (touches k e.pid call)) (plain_seen m e call taken is_s)

  -- a list that stays is left alone by it
  pub plain_spared : status m e.pid ≡ idle → (q : ℕ) → q ≢ e.pid → is_in q e.doomed ≡ false → Spared m.committed e.pid (executed m e call taken ∷ []) q (calls_at m q)
  plain_spared is_s q ne free = record {
    other = ne;
    apart = λ w u i j. subst (λ ts. NoClash ts (loose_touches q (calls_at m q) m.committed)) (counted_is is_s) (spared q ne free) (written w) u
        (In-filter (λ t. t.write) (written w) (touches m.committed e.pid call) refl (elim (In-cases (written w) (touches m.committed e.pid call) [] i) [ inl h ↦ h | inr h ↦ absurd h ])) j;
    numbers_apart = λ n h. elim (cases_Bool (is_in n (e.chosen ++ []))) [
      | inr out ↦ out
      | inl both ↦ elim (in_either n e.chosen [] both) [
        | inl c ↦ absurd (both_ways (is_in n (numbers (calls_at m q))) ((chosen_apart n c).lists q free) h)
        | inr f ↦ absurd (false≢true f)
      ]
    ];
  }

  pub changes : status m e.pid ≡ idle → e.op ≡ Do call → Sound Well (next m e)
  changes is_s is_op = record { lists = subst (λ k. SoundOf Well k (calls_at (next m e))) (sym (plain_same m e call taken is_s is_op)) (committed Well laws m.committed e.pid (executed m e call taken ∷ []) (calls_at m) (calls_at (next m e)) sound.lists (plain_goes is_s) stays) } where
    empty : calls_at (next m e) e.pid ≡ []
    empty = ap calls_of (plain_idle m e call taken is_s)

    stays : (q : ℕ) → (calls_at (next m e) q ≡ []) ⊎ ((calls_at (next m e) q ≡ calls_at m q) × Spared m.committed e.pid (executed m e call taken ∷ []) q (calls_at m q))
    stays q = elim (cases_eq q e.pid) [
      | inl same ↦ inl (ap (calls_at (next m e)) same ∙ empty)
      | inr ne ↦ elim (cases_Bool (is_in q e.doomed)) [
        | inl is_doomed ↦ inl (calls_doomed m e q is_doomed)
        | inr free ↦ inr (ap calls_of (phase_other m e q ne free), plain_spared is_s q ne free)
      ]
    ]

  -- a call of a live transaction
  abbrev pub spared_calls : ℕ → List Executed
  spared_calls q = cond (is_in q e.doomed) [] (calls_at m q)

  pub pushes : (flags : BeginFlags) (age : ℕ) (calls : List Executed) → status m e.pid ≡ live flags age calls → e.op ≡ Do call → is_inside call ≡ true → Sound Well (next m e)
  pushes flags age calls is_s is_op inside = record { lists = subst (λ k. SoundOf Well k (calls_at (next m e))) (sym (pushed_same m e call taken flags age calls is_s is_op)) (pushed Well m.committed spared_calls (calls_at (next m e)) e.pid (executed m e call taken) between new here others) } where
    is_phase : m.phase e.pid ≡ live flags age calls
    is_phase = phase_is m e.pid (live flags age calls) is_s (λ h. absurd cc)

    between : SoundOf Well m.committed spared_calls
    between = kept Well m.committed (calls_at m) spared_calls sound.lists (λ q. at_test q (is_in q e.doomed)) where
      at_test : (q : ℕ) (b : Bool) → (cond b [] (calls_at m q) ≡ []) ⊎ (cond b [] (calls_at m q) ≡ calls_at m q)
      at_test q true = inl refl
      at_test q false = inr refl

    mid : spared_calls e.pid ≡ calls_at m e.pid
    mid = ap (λ b. cond b [] (calls_at m e.pid)) (not_itself m e call taken)

    here : calls_at (next m e) e.pid ≡ spared_calls e.pid ++ executed m e call taken ∷ []
    here = ap calls_of (pushed_phase m e call taken flags age calls is_s is_op) ∙ ap (λ es. es ++ executed m e call taken ∷ []) (sym mid)

    others : (q : ℕ) → q ≢ e.pid → calls_at (next m e) q ≡ spared_calls q
    others q ne = elim (cases_Bool (is_in q e.doomed)) [
      | inl h ↦ calls_doomed m e q h ∙ sym (ap (λ b. cond b [] (calls_at m q)) h)
      | inr h ↦ ap calls_of (phase_other m e q ne h) ∙ sym (ap (λ b. cond b [] (calls_at m q)) h)
    ]

    u : Kernel
    u = loose e.pid (calls_at m e.pid) m.committed

    alive : is_alive m.committed e.pid ≡ true
    alive = alive_is m e.pid (live flags age calls) is_s (λ h. absurd cc)

    well_u : Well (loose e.pid (calls_at m e.pid) m.committed)
    well_u = goes_well Well laws e.pid m.committed (calls_at m e.pid) sound.lists.well (sound.lists.goes e.pid)

    seen : seen_by m e.pid ≡ tidy (loose e.pid (calls_at m e.pid) m.committed)
    seen = seen_is Well laws m sound e.pid

    way : GoesTheSame (loose e.pid (calls_at m e.pid) m.committed) (tidy (loose e.pid (calls_at m e.pid) m.committed)) e.pid call
    way = laws.tidy_unseen (loose e.pid (calls_at m e.pid) m.committed) e.pid call well_u

    edits_same : edits (seen_by m e.pid) e.pid call ≡ edits (loose e.pid (calls_at m e.pid) m.committed) e.pid call
    edits_same = ap (λ k. edits k e.pid call) seen ∙ way.edits

    new_nowhere : (n : ℕ) → is_in n e.chosen ≡ true → IsNowhere (loose e.pid (calls_at m e.pid) m.committed) n
    new_nowhere n h = goes_nowhere Well laws e.pid m.committed (calls_at m e.pid) n ((chosen_apart n h).lists e.pid (not_itself m e call taken)) (chosen_apart n h).committed (sound.lists.goes e.pid)

    ready : IsReady Well (loose e.pid (calls_at m e.pid) m.committed) e.pid call e.chosen
    ready = record {
      well = well_u;
      alive = goes_alive Well laws e.pid m.committed (calls_at m e.pid) (sound.lists.inside e.pid) alive (sound.lists.goes e.pid);
      numbers = can_again (seen_by m e.pid) (loose e.pid (calls_at m e.pid) m.committed) (edits (loose e.pid (calls_at m e.pid) m.committed) e.pid call) e.chosen
          (subst (λ x. CanBeChosen (seen_by m e.pid) x e.chosen) edits_same taken.chosen) new_nowhere;
    }

    full : counted_touches m e.pid call ≡ touches (loose e.pid (calls_at m e.pid) m.committed) e.pid call
    full = ap (λ s. counted s (touches (seen_by m e.pid) e.pid call)) is_phase ∙ ap (λ k. touches k e.pid call) seen ∙ way.touches

    clear : (q : ℕ) → q ≢ e.pid → NoClash (touches (loose e.pid (calls_at m e.pid) m.committed) e.pid call) (loose_touches q (spared_calls q) m.committed)
    clear q ne = elim (cases_Bool (is_in q e.doomed)) [
      | inl h ↦ subst (λ es. NoClash (touches (loose e.pid (calls_at m e.pid) m.committed) e.pid call) (loose_touches q es m.committed)) (sym (ap (λ b. cond b [] (calls_at m q)) h)) (λ t v i j. absurd j)
      | inr h ↦ subst (λ es. NoClash (touches (loose e.pid (calls_at m e.pid) m.committed) e.pid call) (loose_touches q es m.committed)) (sym (ap (λ b. cond b [] (calls_at m q)) h))
          (subst (λ ts. NoClash ts (loose_touches q (calls_at m q) m.committed)) full (spared q ne h))
    ]

    apart : (q n : ℕ) → is_in n e.chosen ≡ true → is_in n (numbers (spared_calls q)) ≡ false
    apart q n h = elim (cases_Bool (is_in q e.doomed)) [
      | inl f ↦ ap (λ b. is_in n (numbers (cond b [] (calls_at m q)))) f
      | inr f ↦ ap (λ b. is_in n (numbers (cond b [] (calls_at m q)))) f ∙ (chosen_apart n h).lists q f
    ]

    new : Pushes Well m.committed spared_calls e.pid (executed m e call taken)
    new = record {
      ready = subst (λ es. IsReady Well (loose e.pid es m.committed) e.pid call e.chosen) (sym mid) ready;
      answer = ap (λ k. reply k e.pid call) seen ∙ way.reply ∙ ap (λ es. reply (loose e.pid es m.committed) e.pid call) (sym mid);
      inside = inside;
      nowhere = λ n h. (chosen_apart n h).committed;
      apart = apart;
      clear = λ q ne. subst (λ es. NoClash (touches (loose e.pid es m.committed) e.pid call) (loose_touches q (spared_calls q) m.committed)) (sym mid) (clear q ne);
    }

-- a committed list leaves the others alone
pub end_spared : (Well : Kernel → Type 0) (m : Moment) (p : ℕ) → Sound Well m → (q : ℕ) → q ≢ p → Spared m.committed p (calls_at m p) q (calls_at m q)
end_spared Well m p sound q ne = record {
  other = ne;
  apart = λ w u i j. sound.lists.peace p q (λ f. ne (sym f)) (written w) u i j;
  numbers_apart = λ n h. sound.lists.apart q p ne n h;
}

pub end_same : (Well : Kernel → Type 0) (laws : CallLaws Well) (m : Moment) (e : Entry) (flags : BeginFlags) (age : ℕ) (calls : List Executed) → Sound Well m → status m e.pid ≡ live flags age calls → e.op ≡ End → e.reply ≡ Committed → (next m e).committed ≡ tidy (loose e.pid (calls_at m e.pid) m.committed)
end_same Well laws m e flags age calls sound is_s is_op is_reply = ap (λ es. after_list e.pid es m.committed) (ap (λ x. run_by x e.op e.reply e.chosen) is_s ∙ ap (λ x. run_by (live flags age calls) x e.reply e.chosen) is_op
    ∙ ap (λ x. run_by (live flags age calls) End x e.chosen) is_reply ∙ sym (ap calls_of (phase_is m e.pid (live flags age calls) is_s (λ h. absurd cc)))) ∙ seen_is Well laws m sound e.pid

-- a committed end
pub commits : (Well : Kernel → Type 0) (laws : CallLaws Well) (m : Moment) (e : Entry) (flags : BeginFlags) (age : ℕ) (calls : List Executed) → Sound Well m → status m e.pid ≡ live flags age calls → e.op ≡ End → e.reply ≡ Committed → Alone e → Sound Well (next m e)
commits Well laws m e flags age calls sound is_s is_op is_reply alone = record { lists = subst (λ k. SoundOf Well k (calls_at (next m e))) (sym (end_same Well laws m e flags age calls sound is_s is_op is_reply)) (committed Well laws m.committed e.pid (calls_at m e.pid) (calls_at m) (calls_at (next m e)) sound.lists (sound.lists.goes e.pid) stays) } where
  out : (q : ℕ) → is_in q e.doomed ≡ false
  out q = ap (is_in q) alone.doomed

  stays : (q : ℕ) → (calls_at (next m e) q ≡ []) ⊎ ((calls_at (next m e) q ≡ calls_at m q) × Spared m.committed e.pid (calls_at m e.pid) q (calls_at m q))
  stays q = elim (cases_eq q e.pid) [
    | inl same ↦ inl (ap (calls_at (next m e)) same ∙ ap calls_of (phase_own m e (out e.pid)) ∙ ap (λ x. calls_of (own_next (m.entries + 1) (m.phase e.pid) e.op x e.chosen)) is_reply)
    | inr ne ↦ inr (ap calls_of (phase_other m e q ne (out q)), end_spared Well m e.pid sound q ne)
  ]
