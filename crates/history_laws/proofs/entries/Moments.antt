-- A moment and the next one: phases, what stands of the live lists, and entries that commit nothing.
use Rattle.std.proofs.Common.{◌≡◌, ◌≢◌, ℕ, zero, suc, ◌+◌, ◌<◌, [], ◌∷◌, ◌++◌, refl, sym, ◌∙◌, ap, subst, true, false, Bool, ◌⊎◌, inl, inr, eqb, arith, cond}
use Rattle.std.specs.Prelude.{◌||◌, if◌then◌else◌}
use Rattle.std.proofs.lemmas.Bool.{cases_eq, or_cases, or_parts, false≢true, eqb-true, eqb-false, eq-eqb, ne_eqb}
use Rattle.model.specs.State.{Kernel}
use Rattle.model.specs.Changes.{tidy}
use Rattle.model.specs.Steps.{reply, Run}
use Rattle.model.specs.Entries.{Op, Cause, Reply, Entry}
use Rattle.model.specs.Moments.{Status, gone, idle, live, doomed, Moment, status, is_alive, after_list, list_touches, calls_of, calls_at, seen_by, held_by, all_below, own_next, doom, doom_cause, dooming_touches, is_in, run_by, next}
use Rattle.model.specs.Legal.{ListsRun, items}
use Rattle.call_laws.specs.CallLaws.{CallLaws}
use Rattle.history_laws.proofs.Membership.{is_in-append}
use Rattle.history_laws.proofs.lists.UntidiedRuns.{loose, loose_touches, Tidied, tidied_run}
use Rattle.history_laws.proofs.lists.LiveLists.{SoundOf, kept}

-- the process numbers below a bound that pass a test
pub below_passes : (p : ℕ → Bool) (n q : ℕ) → is_in q (all_below p n) ≡ true → p q ≡ true
below_passes p zero q h = absurd (false≢true h)
below_passes p (suc n) q h = at_test (p n) refl (λ o. below_passes p n q o) h where
  at_test : (b : Bool) → p n ≡ b → (is_in q (all_below p n) ≡ true → p q ≡ true) → is_in q (cond b (all_below p n ++ n ∷ []) (all_below p n)) ≡ true → p q ≡ true
  at_test false is earlier h = earlier h
  at_test true is earlier h = elim (or_cases (is_in q (all_below p n)) (eqb q n || false) (sym (is_in-append q (all_below p n) (n ∷ [])) ∙ h)) [
    | inl a ↦ earlier a
    | inr b ↦ elim (or_cases (eqb q n) false b) [ inl same ↦ ap p (eqb-true q n same) ∙ is | inr f ↦ absurd (false≢true f) ]
  ]

pub below_complete : (p : ℕ → Bool) (n q : ℕ) → is_in q (all_below p n) ≡ false → q < n → p q ≡ false
below_complete p zero q h lt = absurd (omega arith)
below_complete p (suc n) q h lt = at_test (p n) refl (λ o below. below_complete p n q o below) h where
  at_test : (b : Bool) → p n ≡ b → (is_in q (all_below p n) ≡ false → q < n → p q ≡ false) → is_in q (cond b (all_below p n ++ n ∷ []) (all_below p n)) ≡ false → p q ≡ false
  at_test false is earlier h = elim (cases_eq q n) [
    | inl e ↦ ap p e ∙ is
    | inr ne ↦ earlier h (omega arith)
  ]
  at_test true is earlier h =
      let joined : (is_in q (all_below p n) || (eqb q n || false)) ≡ false = sym (is_in-append q (all_below p n) (n ∷ [])) ∙ h in
      let other : eqb q n ≡ false = (or_parts (eqb q n) false (or_parts (is_in q (all_below p n)) (eqb q n || false) joined).1).0 in
      earlier (or_parts (is_in q (all_below p n)) (eqb q n || false) joined).0 (let ne : q ≢ n = eqb-false q n other in omega arith)

pub record Sound (Well : Kernel → Type 0) (m : Moment) : Type 0 where
  pub lists : SoundOf Well m.committed (calls_at m)

doom_empty : (s : Status) (c : Cause) → calls_of (doom s c) ≡ []
doom_empty (live flags age es) c = refl
doom_empty idle c = refl
doom_empty gone c = refl
doom_empty (doomed first flags age) c = refl

module _ (m : Moment) (e : Entry) where
  abbrev pub own_after : Status
  own_after = own_next (m.entries + 1) (m.phase e.pid) e.op e.reply e.chosen

  -- another process that is not doomed stays as it was
  pub phase_other : (q : ℕ) → q ≢ e.pid → is_in q e.doomed ≡ false → (next m e).phase q ≡ m.phase q
  phase_other q ne out = at_tests (is_in q e.doomed) (eqb q e.pid) out (ne_eqb q e.pid ne) where
    at_tests : (b a : Bool) → b ≡ false → a ≡ false → cond b (doom (cond a (own_next (m.entries + 1) (m.phase q) e.op e.reply e.chosen) (m.phase q)) (doom_cause m e.pid (dooming_touches m e.pid e.op) q)) (cond a (own_next (m.entries + 1) (m.phase q) e.op e.reply e.chosen) (m.phase q)) ≡ m.phase q
    at_tests true a f g = absurd (false≢true (sym f))
    at_tests false true f g = absurd (false≢true (sym g))
    at_tests false false f g = refl

  pub phase_own : is_in e.pid e.doomed ≡ false → (next m e).phase e.pid ≡ own_after
  phase_own out = at_tests (is_in e.pid e.doomed) (eqb e.pid e.pid) out (eq-eqb e.pid e.pid refl) where
    at_tests : (b a : Bool) → b ≡ false → a ≡ true → cond b (doom (cond a own_after (m.phase e.pid)) (doom_cause m e.pid (dooming_touches m e.pid e.op) e.pid)) (cond a own_after (m.phase e.pid)) ≡ own_after
    at_tests true a f g = absurd (false≢true (sym f))
    at_tests false true f g = refl
    at_tests false false f g = absurd (false≢true g)

  pub calls_doomed : (q : ℕ) → is_in q e.doomed ≡ true → calls_at (next m e) q ≡ []
  calls_doomed q doomed_too = at_test (is_in q e.doomed) doomed_too where
    at_test : (b : Bool) → b ≡ true → calls_of (cond b (doom (cond (eqb q e.pid) (own_next (m.entries + 1) (m.phase q) e.op e.reply e.chosen) (m.phase q)) (doom_cause m e.pid (dooming_touches m e.pid e.op) q)) (cond (eqb q e.pid) (own_next (m.entries + 1) (m.phase q) e.op e.reply e.chosen) (m.phase q))) ≡ []
    at_test true f = doom_empty _ _
    at_test false f = absurd (false≢true f)

  -- an entry that commits nothing, after which its process has no calls or the same
  pub simple : (Well : Kernel → Type 0) → Sound Well m → e.doomed ≡ [] → (next m e).committed ≡ m.committed → (calls_of own_after ≡ []) ⊎ (calls_of own_after ≡ calls_at m e.pid) → Sound Well (next m e)
  simple Well s none still own = record { lists = subst (λ k. SoundOf Well k (calls_at (next m e))) (sym still) (kept Well m.committed (calls_at m) (calls_at (next m e)) s.lists stays) } where
    out : (q : ℕ) → is_in q e.doomed ≡ false
    out q = ap (is_in q) none

    stays : (q : ℕ) → (calls_at (next m e) q ≡ []) ⊎ (calls_at (next m e) q ≡ calls_at m q)
    stays q = elim (cases_eq q e.pid) [
      | inl same ↦ subst (λ x. (calls_at (next m e) x ≡ []) ⊎ (calls_at (next m e) x ≡ calls_at m x)) (sym same) (elim own [
        | inl f ↦ inl (ap calls_of (phase_own (out e.pid)) ∙ f)
        | inr f ↦ inr (ap calls_of (phase_own (out e.pid)) ∙ f)
      ])
      | inr ne ↦ inr (ap calls_of (phase_other q ne (out q)))
    ]

-- the phase of a process by its status
phase_of : (b : Bool) (s phase : Status) → (if b then phase else gone) ≡ s → s ≢ gone → phase ≡ s
phase_of true s phase h ne = h
phase_of false s phase h ne = absurd (ne (sym h))

pub phase_is : (m : Moment) (q : ℕ) (s : Status) → status m q ≡ s → s ≢ gone → m.phase q ≡ s
phase_is m q s h ne = phase_of (is_alive m.committed q) s (m.phase q) h ne

alive_of : (b : Bool) (s phase : Status) → (if b then phase else gone) ≡ s → s ≢ gone → b ≡ true
alive_of true s phase h ne = refl
alive_of false s phase h ne = absurd (ne (sym h))

pub alive_is : (m : Moment) (q : ℕ) (s : Status) → status m q ≡ s → s ≢ gone → is_alive m.committed q ≡ true
alive_is m q s h ne = alive_of (is_alive m.committed q) s (m.phase q) h ne

-- an entry without new numbers that runs nothing commits nothing
pub nothing_run : (m : Moment) (e : Entry) (s : Status) (op : Op) (reply : Reply) → status m e.pid ≡ s → e.op ≡ op → e.reply ≡ reply → e.chosen ≡ [] → run_by s op reply [] ≡ [] → (next m e).committed ≡ m.committed
nothing_run m e s op reply is_s is_op is_reply none still =
    ap (λ es. after_list e.pid es m.committed) (ap (λ x. run_by x e.op e.reply e.chosen) is_s ∙ ap (λ x. run_by s x e.reply e.chosen) is_op ∙ ap (λ x. run_by s op x e.chosen) is_reply ∙ ap (run_by s op reply) none ∙ still)

-- what a live list's run on states that are not tidied tells of what its process sees
module _ (Well : Kernel → Type 0) (laws : CallLaws Well) (m : Moment) (sound : Sound Well m) where
  pub run_at : (q : ℕ) → Tidied m.committed q (calls_at m q)
  run_at q = tidied_run Well laws q m.committed (calls_at m q) (sound.lists.goes q)

  pub seen_is : (q : ℕ) → seen_by m q ≡ tidy (loose q (calls_at m q) m.committed)
  seen_is q = ap (λ k. after_list q (calls_at m q) k) (sym sound.lists.tidied) ∙ (run_at q).end

  pub held_is : (q : ℕ) → held_by m q ≡ loose_touches q (calls_at m q) m.committed
  held_is q = ap (λ k. list_touches q (calls_at m q) k) (sym sound.lists.tidied) ∙ (run_at q).touches

  -- so at each sound moment the live lists run
  pub lists_run : ListsRun m
  lists_run q = subst (λ k. Run k (items q (calls_at m q)) (after_list q (calls_at m q) k)) sound.lists.tidied (run_at q).run
