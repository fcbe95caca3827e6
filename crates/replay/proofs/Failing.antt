-- Where one root fails: others go on from there only where the call there tells them.
use Rattle.std.proofs.Common.{◌≡◌, ◌≢◌, ◌⊎◌, ℕ, zero, suc, ◌<◌, ◌≤◌, Bool, true, false, cond, nat_lt, ◌==◌, le_of_lt, List, [], ◌∷◌, ◌++◌, take, drop, length, Option, Some, None, Result, inl, inr, refl, sym, ap, subst, ◌∙◌, take-append-drop, arith}
use Rattle.std.specs.Prelude.{if◌then◌else◌}
use Rattle.std.specs.List.{AllByRecursion}
use Rattle.std.specs.Ordering.{is_lt, nat_cmp, ord_max, ordering_then}
use Rattle.std.specs.declared.cmp.Ordering.TheVariants.{Less, Equal, Greater}
use Rattle.std.proofs.lemmas.Bool.{cases_eq, eqb-false, eqb-true, ltb-false, ltb-true}
use Rattle.model.specs.State.{Kernel}
use Rattle.model.specs.Plan.{Errno}
use Rattle.model.specs.Calls.{Answer}
use Rattle.model.specs.Steps.{Run}
use Rattle.model.specs.Entries.{Op, Do, Begin, End, Abort, Reply, Answers, Refuses, Begun, Committed, GivenUp, Aborted, Busy, InTransaction, NotInTransaction, HistoryFull, NoMemory, NoProcess, Entry, Executed, answer_in}
use Rattle.model.specs.Moments.{Setup, Status, gone, idle, live, doomed, Moment, is_alive, status, after, run_by, calls_of, calls_at, plain_calls}
use Rattle.model.specs.Legal.{items}
use Rattle.model.specs.Suits.{suits}
use Rattle.replay.specs.Transactions.{call_in, call_first}
use Rattle.model.specs.Passing.{Passes}
use Rattle.replay.specs.Faults.{HoldsEntry, calls_before, commits, commits_from, RunsOn, IsFirstWrongCall, IsItself, IsFirstWrong}
use Rattle.replay.specs.Failing.{StopsAt, IsUnsuited, IsWrongCall, IsWrongCommit, FailsAt, TellsAt, IsUnchosen}
use Rattle.replay.proofs.Prefixes.{Begins, OneMore, one_more, passes_take, run_calls_split, same_committed, take_begins, take_next}
use Rattle.replay.proofs.Roots.{calls_alike, commits_alike, last_runs, runs_alike, suits_alike}

-- An entry that commits suits, and runs the list of its transaction.
record Commits (s : Status) (op : Op) (reply : Reply) (chosen : List ℕ) : Type 0 where
  suits : suits s op reply ≡ true
  runs : run_by s op reply chosen ≡ calls_of s

commits_in : (s : Status) (op : Op) (reply : Reply) (chosen : List ℕ) → commits_from s op reply ≡ true → Commits s op reply chosen
commits_in (live f a cs) End Committed chosen h = record { suits = refl; runs = refl }
commits_in gone op reply chosen h = absurd cc
commits_in idle op reply chosen h = absurd cc
commits_in (doomed c f a) op reply chosen h = absurd cc
commits_in (live f a cs) (Do call) reply chosen h = absurd cc
commits_in (live f a cs) (Begin new) reply chosen h = absurd cc
commits_in (live f a cs) (Abort no_restart) reply chosen h = absurd cc
commits_in (live f a cs) End (Answers x) chosen h = absurd cc
commits_in (live f a cs) End (Refuses x) chosen h = absurd cc
commits_in (live f a cs) End Begun chosen h = absurd cc
commits_in (live f a cs) End (GivenUp x) chosen h = absurd cc
commits_in (live f a cs) End (Aborted x y) chosen h = absurd cc
commits_in (live f a cs) End (Busy x) chosen h = absurd cc
commits_in (live f a cs) End InTransaction chosen h = absurd cc
commits_in (live f a cs) End NotInTransaction chosen h = absurd cc
commits_in (live f a cs) End HistoryFull chosen h = absurd cc
commits_in (live f a cs) End NoMemory chosen h = absurd cc
commits_in (live f a cs) End NoProcess chosen h = absurd cc

-- its process is alive, so that its status is what is kept of it
commits_at : (m : Moment) (e : Entry) → commits m e ≡ true → run_by (status m e.pid) e.op e.reply e.chosen ≡ calls_at m e.pid
commits_at m e h = by (is_alive m.committed e.pid) h where
  by : (b : Bool) → commits_from (if b then m.phase e.pid else gone) e.op e.reply ≡ true → run_by (if b then m.phase e.pid else gone) e.op e.reply e.chosen ≡ calls_at m e.pid
  by true h = (commits_in (m.phase e.pid) e.op e.reply e.chosen h).runs
  by false h = absurd cc

true_or_false : (b : Bool) → b ≡ true → b ≡ false → ⊥
true_or_false b h g = let e : true ≡ false = sym h ∙ g in cc

not_true : (b : Bool) → (b ≡ true → ⊥) → b ≡ false
not_true true h = absurd (h refl)
not_true false h = refl

-- the call of an entry has the entry's numbers
chosen_of : (op : Op) (reply : Reply) (chosen : List ℕ) (c : Executed) → call_in op reply chosen ≡ c ∷ [] → c.chosen ≡ chosen
chosen_of (Do call) reply chosen c h = by (answer_in reply) h where
  by : (o : Option (Result Answer Errno)) → plain_calls call o chosen ≡ c ∷ [] → c.chosen ≡ chosen
  by None h = absurd cc
  by (Some answer) h = let same : record { call = call; answer = answer; chosen = chosen } ≡ c = cc in sym (ap (λ (x : Executed). x.chosen) same)
chosen_of (Begin flags) reply chosen c h = absurd cc
chosen_of End reply chosen c h = absurd cc
chosen_of (Abort no_restart) reply chosen c h = absurd cc

unchosen_at : (n : ℕ) (es : List Entry) → IsUnchosen n es → (position : ℕ) (c : Executed) → call_first (drop position es) ≡ c ∷ [] → AllByRecursion (λ m. m ≢ n) c.chosen
unchosen_at n [] h zero c is = absurd cc
unchosen_at n [] h (suc position) c is = absurd cc
unchosen_at n (e ∷ es) h zero c is = subst (λ ns. AllByRecursion (λ m. m ≢ n) ns) (sym (chosen_of e.op e.reply e.chosen c is)) h.0
unchosen_at n (e ∷ es) h (suc position) c is = unchosen_at n es h.1 position c is

-- a run of a longer list is one of a beginning
run_begins : (k : Kernel) (pid : ℕ) (xs ys : List Executed) (l : Kernel) → Begins xs ys → Run k (items pid ys) l → (later : Kernel) × Run k (items pid xs) later
run_begins k pid xs ys l h run =
    let parts = run_calls_split k pid xs h.rest l (subst (λ cs. Run k (items pid cs) l) h.is run) in
    (parts.mid, parts.before)

same_entry : (x y : Entry) (xs ys : List Entry) → ◌≡◌ {A = List Entry} (x ∷ xs) (y ∷ ys) → x ≡ y
same_entry x y xs ys h = cc

-- the one failure is no later than the other
abbrev pub IsNoLater : ℕ → ℕ → ℕ → ℕ → Type 0
IsNoLater at position behind other = (at < behind) ⊎ ((at ≡ behind) × (position ≤ other))

module _ (setup : Setup) (es : List Entry) where
  module _ (g at position : ℕ) (e : Entry) (here : HoldsEntry es at e) (p : Passes g setup (take at es)) where
    abbrev How : Type 0
    How = IsUnsuited g setup es at position e p ⊎ (IsWrongCall g setup es at position e p ⊎ IsWrongCommit g setup es at position e p)

    -- what it is for a root with this committed state to go on where this one fails
    abbrev GoesOn : How → ℕ → Kernel → Type 0
    GoesOn (inl u) r k = suits (status (after r setup (take at es)) e.pid) e.op e.reply ≡ true
    GoesOn (inr (inl w)) r k = (later : Kernel) × Run k (items e.pid ([] ++ w.call ∷ [])) later
    GoesOn (inr (inr w)) r k = (later : Kernel) × Run k (items e.pid (take w.number (calls_before g setup es e.pid at) ++ w.call ∷ [])) later

    -- a root goes on where the entry passes for it
    entry_goes_on : (h : How) (r : ℕ) (q : Passes r setup (take at es)) → Passes r setup (take (suc at) es) → GoesOn h r q.exists.committed
    entry_goes_on h r q more = by h where
      one : OneMore r setup (take at es) e q.exists.committed
      one = one_more r setup (take at es) e q (subst (λ (xs : List Entry). Passes r setup xs) (take_next es at e here.rest here.here) more)

      run_here : Run q.exists.committed (items e.pid (run_by (status (after g setup (take at es)) e.pid) e.op e.reply e.chosen)) one.later
      run_here = subst (λ cs. Run q.exists.committed (items e.pid cs) one.later) (runs_alike setup g r (take at es) p q e) one.run

      by : (h : How) → GoesOn h r q.exists.committed
      by (inl u) = one.suit
      by (inr (inl w)) = (one.later, subst (λ cs. Run q.exists.committed (items e.pid cs) one.later) w.only run_here)
      by (inr (inr w)) =
          let calls : List Executed = calls_before g setup es e.pid at in
          let run : Run q.exists.committed (items e.pid calls) one.later = subst (λ cs. Run q.exists.committed (items e.pid cs) one.later) (commits_at (after g setup (take at es)) e w.commits) run_here in
          run_begins q.exists.committed e.pid (take w.number calls ++ w.call ∷ []) calls one.later
          (record { rest = drop (suc w.number) calls; is = sym (take-append-drop (suc w.number) calls) ∙ ap (λ cs. cs ++ drop (suc w.number) calls) w.with_it }) run

    -- or where it commits, and the call runs behind those before it
    call_goes_on : (w : IsWrongCommit g setup es at position e p) (r : ℕ) (q : RunsOn r setup es e.pid at (suc w.number)) → GoesOn (inr (inr w)) r q.passes.exists.committed
    call_goes_on w r q = (q.after, subst (λ cs. Run q.passes.exists.committed (items e.pid cs) q.after) (ap (take (suc w.number)) (calls_alike setup g r (take at es) p q.passes e.pid) ∙ w.with_it) q.run)

    -- this root does not
    fails_itself : (h : How) (q : Passes g setup (take at es)) → GoesOn h g q.exists.committed → ⊥
    fails_itself (inl u) q on = true_or_false _ on u.unsuited
    fails_itself (inr (inl w)) q on = w.stops.fails on.0 (subst (λ k. Run k (items e.pid ([] ++ w.call ∷ [])) on.0) (same_committed g setup (take at es) q p) on.1)
    fails_itself (inr (inr w)) q on = w.stops.fails on.0 (subst (λ k. Run k (items e.pid (take w.number (calls_before g setup es e.pid at) ++ w.call ∷ [])) on.0) (same_committed g setup (take at es) q p) on.1)

    -- nor does another, where this one is not chosen and the call does not tell the other
    fails_too : (h : How) (r : ℕ) (q : Passes r setup (take at es)) → IsUnchosen g es → (TellsAt r es position → ⊥) → GoesOn h r q.exists.committed → ⊥
    fails_too h r q away quiet on = elim (cases_eq r g) [
      | inl same ↦ subst (λ x. (q : Passes x setup (take at es)) → GoesOn h x q.exists.committed → ⊥) (sym same) (fails_itself h) q on
      | inr apart ↦ other apart h on
    ] where
      stops : (first : List Executed) (c : Executed) → r ≢ g → StopsAt p.exists.committed e.pid es position first c → (later : Kernel) × Run q.exists.committed (items e.pid (first ++ c ∷ [])) later → ⊥
      stops first c apart h on =
          let ran = last_runs setup r g (take at es) q p apart e.pid first c on.0 h.mid on.1 h.runs (λ tells. quiet (record { call = c; here = h.here; tells = tells })) (unchosen_at g es away position c h.here) in
          h.fails ran.0 ran.1

      other : r ≢ g → (h : How) → GoesOn h r q.exists.committed → ⊥
      other apart (inl u) on = true_or_false _ (suits_alike setup r g (take at es) q p e ∙ on) u.unsuited
      other apart (inr (inl w)) on = stops [] w.call apart w.stops on
      other apart (inr (inr w)) on = stops (take w.number (calls_before g setup es e.pid at)) w.call apart w.stops on

    -- where none goes on, the history is wrong there
    wrong_there : (h : How) → ((r : ℕ) (q : Passes r setup (take at es)) → GoesOn h r q.exists.committed → ⊥) → IsFirstWrong setup es position
    wrong_there h none = record {
      at = at;
      entry = e;
      here = here;
      before = (g, p);
      fails = λ some. let q = passes_take some.0 setup es at (suc at) (omega arith) some.1 in none some.0 q (entry_goes_on h some.0 q some.1);
      is = by h none;
    } where
      by : (h : How) → ((r : ℕ) (q : Passes r setup (take at es)) → GoesOn h r q.exists.committed → ⊥) → IsItself setup es e at position ⊎ IsFirstWrongCall setup es e at position
      by (inl u) none = inl (record {
        same = u.same;
        commits_not = λ r q. not_true _ (λ yes. true_or_false _ ((commits_in _ e.op e.reply e.chosen yes).suits) (suits_alike setup g r (take at es) p q e ∙ u.unsuited));
      })
      by (inr (inl w)) none = inl (record { same = w.same; commits_not = λ r q. commits_alike setup g r (take at es) p q e ∙ w.commits_not })
      by (inr (inr w)) none = inr (record {
        root = g;
        passes = p;
        commits = w.commits;
        number = w.number;
        call = w.is_call;
        runs = (g, record { passes = p; after = w.stops.mid; run = w.stops.runs });
        fails = λ r q. none r q.passes (call_goes_on w r q);
      })

    -- So it is where the call there tells no root.
    pub wrong_for_all : (h : How) → IsUnchosen g es → ((r : ℕ) → TellsAt r es position → ⊥) → IsFirstWrong setup es position
    wrong_for_all h away quiet = wrong_there h (λ r q. fails_too h r q away (quiet r))

  -- Two roots that fail at one entry, the one at no later position than the other: what goes on from the
  -- later goes on from the earlier.
  module _ (g k at : ℕ) (e : Entry) (here : HoldsEntry es at e) (p : Passes g setup (take at es)) (q : Passes k setup (take at es)) where
    in_order : (position other : ℕ) (w : IsWrongCommit g setup es at position e p) (v : IsWrongCommit k setup es at other e q) → position ≤ other → w.number ≤ v.number
    in_order position other w v order =
        let low : other ≤ at = omega (arith, v.is_call.earlier) in
        let alike : calls_before k setup es e.pid other ≡ calls_before g setup es e.pid other = calls_alike setup g k (take other es) (passes_take g setup es other at low p) (passes_take k setup es other at low q) e.pid in
        let same : length (calls_before k setup es e.pid other) ≡ length (calls_before g setup es e.pid other) = ap length alike in
        let here : length (calls_before k setup es e.pid other) ≡ v.number = v.is_call.before in
        elim (cases_eq position other) [
          | inl one ↦
              let before : length (calls_before g setup es e.pid other) ≡ w.number = subst (λ n. length (calls_before g setup es e.pid n) ≡ w.number) one w.is_call.before in
              omega (arith, same, here, before)
          | inr two ↦
              let past : w.number < length (calls_before g setup es e.pid other) = w.is_call.since other (strictly position other order two) low in
              omega (arith, same, here, past)
        ]
      where
        strictly : (a b : ℕ) → a ≤ b → a ≢ b → a < b
        strictly a b h g = omega arith

    misfit : suits (status (after g setup (take at es)) e.pid) e.op e.reply ≡ false → suits (status (after k setup (take at es)) e.pid) e.op e.reply ≡ true → ⊥
    misfit no_fit fit = true_or_false _ fit (suits_alike setup g k (take at es) p q e ∙ no_fit)

    fit : suits (status (after g setup (take at es)) e.pid) e.op e.reply ≡ true → suits (status (after k setup (take at es)) e.pid) e.op e.reply ≡ false → ⊥
    fit fits no_fit = true_or_false _ (suits_alike setup g k (take at es) p q e ∙ fits) no_fit

    same_position : (position other : ℕ) → position ≤ other → (h : How g at position e here p) (v : How k at other e here q) (r : ℕ) (s : Passes r setup (take at es)) → GoesOn k at other e here q v r s.exists.committed → GoesOn g at position e here p h r s.exists.committed
    same_position position other order (inl u) (inl v) r s on = on
    same_position position other order (inl u) (inr (inl v)) r s on = absurd (misfit u.unsuited v.suits)
    same_position position other order (inl u) (inr (inr v)) r s on = absurd (misfit u.unsuited ((commits_in _ e.op e.reply e.chosen v.commits).suits))
    same_position position other order (inr (inl w)) (inl v) r s on = absurd (fit w.suits v.unsuited)
    same_position position other order (inr (inl w)) (inr (inl v)) r s on =
        (on.0, subst (λ cs. Run s.exists.committed (items e.pid cs) on.0) (sym v.only ∙ runs_alike setup g k (take at es) p q e ∙ w.only) on.1)
    same_position position other order (inr (inl w)) (inr (inr v)) r s on = absurd (true_or_false _ v.commits (commits_alike setup g k (take at es) p q e ∙ w.commits_not))
    same_position position other order (inr (inr w)) (inl v) r s on = absurd (fit ((commits_in _ e.op e.reply e.chosen w.commits).suits) v.unsuited)
    same_position position other order (inr (inr w)) (inr (inl v)) r s on = absurd (true_or_false _ (commits_alike setup g k (take at es) p q e ∙ w.commits) v.commits_not)
    same_position position other order (inr (inr w)) (inr (inr v)) r s on =
        let mine : List Executed = calls_before g setup es e.pid at in
        let low : suc w.number ≤ suc v.number = omega (arith, in_order position other w v order) in
        let begins = take_begins mine (suc w.number) (suc v.number) low in
        let all : take v.number (calls_before k setup es e.pid at) ++ v.call ∷ [] ≡ take (suc v.number) mine = sym v.with_it ∙ ap (take (suc v.number)) (calls_alike setup g k (take at es) p q e.pid) in
        run_begins s.exists.committed e.pid (take w.number mine ++ w.call ∷ []) (take (suc v.number) mine) on.0
        (record { rest = begins.rest; is = begins.is ∙ ap (λ cs. cs ++ begins.rest) w.with_it })
        (subst (λ cs. Run s.exists.committed (items e.pid cs) on.0) all on.1)

  -- to go on where a root fails
  abbrev Beats : (g at position : ℕ) → FailsAt g setup es at position → ℕ → Kernel → Type 0
  Beats g at position f r c = GoesOn g at position f.entry f.here f.passes f.how r c

  module _ (g k at position : ℕ) (f : FailsAt g setup es at position) (r : ℕ) (s : Passes r setup (take at es)) where
    at_one : (other : ℕ) (v : FailsAt k setup es at other) → position ≤ other → (t : Passes r setup (take at es)) → Beats k at other v r t.exists.committed → Beats g at position f r s.exists.committed
    at_one other v order t on =
        subst (λ x. (here : HoldsEntry es at x) (p : Passes k setup (take at es)) (h : How k at other x here p) → GoesOn k at other x here p h r t.exists.committed → Beats g at position f r s.exists.committed)
        (same_entry f.entry v.entry _ _ (sym f.here.here ∙ v.here.here))
        (λ here p h on. same_position g k at f.entry f.here f.passes p position other order f.how h r s
        (subst (λ c. GoesOn k at other f.entry here p h r c) (same_committed r setup (take at es) t s) on))
        v.here v.passes v.how on

    beats_earlier : (behind other : ℕ) (v : FailsAt k setup es behind other) → IsNoLater at position behind other → (t : Passes r setup (take behind es)) → Beats k behind other v r t.exists.committed → Beats g at position f r s.exists.committed
    beats_earlier behind other v (inl low) t on = entry_goes_on g at position f.entry f.here f.passes f.how r s (passes_take r setup es (suc at) behind (omega arith) t)
    beats_earlier behind other v (inr same) t on =
        subst (λ n. (v : FailsAt k setup es n other) (t : Passes r setup (take n es)) → Beats k n other v r t.exists.committed → Beats g at position f r s.exists.committed) same.0
        (λ v t on. at_one other v same.1 t on) v t on

  -- a beginning of what passes, up to the earlier of two failures
  first_passes : (at position behind other : ℕ) → IsNoLater at position behind other → at ≤ behind
  first_passes at position behind other (inl low) = omega arith
  first_passes at position behind other (inr same) = omega (arith, same.0)

  module _ (guess at position : ℕ) (f : FailsAt guess setup es at position) (away : IsUnchosen guess es) where
    -- Where a number fails that is not chosen, the history is wrong, unless the call there tells a root.
    pub wrong_for_guess : ((r : ℕ) → TellsAt r es position → ⊥) → IsFirstWrong setup es position
    wrong_for_guess quiet = wrong_for_all guess at position f.entry f.here f.passes f.how away quiet

    -- If it tells one, the history is wrong at the later of both failures.
    module _ (root behind other : ℕ) (v : FailsAt root setup es behind other) (told : (r : ℕ) → TellsAt r es position → r ≡ root) where
      pub wrong_for_told : IsNoLater at position behind other → IsFirstWrong setup es other
      wrong_for_told order = wrong_there root behind other v.entry v.here v.passes v.how (λ r q on. elim (cases_eq r root) [
        | inl same ↦ subst (λ x. (q : Passes x setup (take behind es)) → Beats root behind other v x q.exists.committed → ⊥) (sym same) (fails_itself root behind other v.entry v.here v.passes v.how) q on
        | inr apart ↦
            let s : Passes r setup (take at es) = passes_take r setup es at behind (first_passes at position behind other order) q in
            fails_too guess at position f.entry f.here f.passes f.how r s away (λ tells. apart (told r tells)) (beats_earlier guess root at position f r s behind other v order q on)
      ])

      pub wrong_for_first : IsNoLater behind other at position → IsFirstWrong setup es position
      wrong_for_first order = wrong_there guess at position f.entry f.here f.passes f.how (λ r q on. elim (cases_eq r root) [
        | inl same ↦ subst (λ x. (q : Passes x setup (take at es)) → Beats guess at position f x q.exists.committed → ⊥) (sym same)
            (λ q on. let s : Passes root setup (take behind es) = passes_take root setup es behind at (first_passes behind other at position order) q in
            fails_itself root behind other v.entry v.here v.passes v.how s (beats_earlier root guess behind other v root s at position f order q on)) q on
        | inr apart ↦ fails_too guess at position f.entry f.here f.passes f.how r q away (λ tells. apart (told r tells)) on
      ])

-- the later of two failures is one of them, and the other is no later
pub later_is : (a p b q : ℕ) (l : ℕ × ℕ) → l ≡ ord_max (λ x y. ordering_then (nat_cmp x.0 y.0) (nat_cmp x.1 y.1)) (a, p) (b, q) → ((l.1 ≡ p) × IsNoLater b q a p) ⊎ ((l.1 ≡ q) × IsNoLater a p b q)
later_is a p b q l h = by (nat_lt b a) (b == a) (nat_lt q p) (q == p) refl refl refl h where
  strictly_below : (a b : ℕ) → a ≤ b → b ≢ a → a < b
  strictly_below a b le apart = omega arith

  by : (x y z w : Bool) → nat_lt b a ≡ x → (b == a) ≡ y → nat_lt q p ≡ z
      → l ≡ (if is_lt (ordering_then (cond x Less (cond y Equal Greater)) (cond z Less (cond w Equal Greater))) then (a, p) else (b, q)) → ((l.1 ≡ p) × IsNoLater b q a p) ⊎ ((l.1 ≡ q) × IsNoLater a p b q)
  by true y z w low same few h = inl (ap (λ (x : ℕ × ℕ). x.1) h, inl (ltb-true b a low))
  by false true true w low same few h = inl (ap (λ (x : ℕ × ℕ). x.1) h, inr (eqb-true b a same, le_of_lt (ltb-true q p few)))
  by false true false true low same few h = inr (ap (λ (x : ℕ × ℕ). x.1) h, inr (sym (eqb-true b a same), ltb-false q p few))
  by false true false false low same few h = inr (ap (λ (x : ℕ × ℕ). x.1) h, inr (sym (eqb-true b a same), ltb-false q p few))
  by false false z w low same few h = inr (ap (λ (x : ℕ × ℕ). x.1) h, inl (strictly_below a b (ltb-false b a low) (eqb-false b a same)))
