-- One entry more that passes.
use Rattle.std.proofs.Common.{◌≡◌, ℕ, ◌+◌, ◌<◌, ◌≤◌, add-one, length, get_or, Bool, true, false, List, [], ◌∷◌, ◌++◌, take, drop, Option, Some, None, Result, refl, sym, ap, subst, ◌∙◌, ◌==◌, append_assoc, append-nil, nat_cmp}
use Rattle.std.specs.Prelude.{if◌then◌else◌}
use Rattle.std.proofs.lemmas.List.{drop_all, drop_more, take_all, take_more as list_more}
use Rattle.model.specs.FiniteMap.{FinMap, get, get-empty, empty}
use Rattle.model.specs.State.{Kernel}
use Rattle.model.specs.Plan.{Errno}
use Rattle.model.specs.Calls.{Answer}
use Rattle.model.specs.Steps.{Run}
use Rattle.model.specs.Entries.{Op, Do, Begin, End, Abort, Cause, Reply, Answers, Refuses, Begun, Committed, GivenUp, Aborted, Busy, InTransaction, NotInTransaction, HistoryFull, NoMemory, NoProcess, Entry, Executed, answer_in}
use Rattle.model.specs.Moments.{Setup, Status, gone, idle, live, doomed, Moment, status, next, next_phase, after, after_from, after_list, at_start, start, is_alive, is_in, plain_calls, own_next, with_call, begun, settled, doom, doom_cause, dooming_touches, run_by}
use Rattle.model.specs.Legal.{items, serial, serial_from}
use Rattle.call_laws.proofs.Laws.{calls_are_lawful_lem}
use Rattle.freeing_laws.specs.Sweep.{IsTidied}
use Rattle.model.specs.Suits.{AllSuit, suits, suits_live, is_committed}
use Rattle.replay.specs.Transactions.{IsKept, call_in, call_first, call_of, calls_at_positions, suits_kept, with_position, begun_kept, settled_kept, own_kept, doomed_kept, next_kept, run_kept, is_end}
use Rattle.model.specs.Passing.{Passes}
use Rattle.replay.specs.Ran.{AreNext, Ran, RanAt, Follows}
use Rattle.replay.specs.Faults.{HoldsEntry}
use Rattle.replay.specs.declared.transaction.Transaction.{Transaction}
use Rattle.replay.specs.declared.transaction.Transaction.TheVariants.{Live, Doomed}
use Rattle.replay.proofs.Placing.{calls-more, next_positions}
use Rattle.replay.proofs.Prefixes.{take_next}
use Rattle.replay.proofs.Running.{ran_append, ran_nothing, run_append, run_leads}

module _ (es : List Entry) where
  -- whether an entry suits, by what is kept
  pub suits_is : (b : Bool) (t : Option Transaction) (s : Status) (op : Op) (reply : Reply) → IsKept es t s → suits (if b then s else gone) op reply ≡ suits_kept b t op reply
  suits_is false t s op reply h = refl
  suits_is true None idle op reply h = refl
  suits_is true None gone op reply h = absurd h
  suits_is true None (live f a cs) op reply h = absurd h
  suits_is true None (doomed c f a) op reply h = absurd h
  suits_is true (Some (Live f ps)) (live g a cs) op reply h = ap (λ x. suits_live x op reply) (sym h.0)
  suits_is true (Some (Live f ps)) idle op reply h = absurd h
  suits_is true (Some (Live f ps)) gone op reply h = absurd h
  suits_is true (Some (Live f ps)) (doomed c g a) op reply h = absurd h
  suits_is true (Some (Doomed f)) (doomed c g a) op reply h = refl
  suits_is true (Some (Doomed f)) idle op reply h = absurd h
  suits_is true (Some (Doomed f)) gone op reply h = absurd h
  suits_is true (Some (Doomed f)) (live g a cs) op reply h = absurd h

  pub idle_runs : (op : Op) (reply : Reply) (chosen : List ℕ) → run_by idle op reply chosen ≡ call_in op reply chosen
  idle_runs (Do call) reply chosen = refl
  idle_runs (Begin flags) reply chosen = refl
  idle_runs End reply chosen = refl
  idle_runs (Abort no_restart) reply chosen = refl

  end_runs : (f : _) (a : ℕ) (cs : List Executed) (reply : Reply) (chosen : List ℕ) → is_committed reply ≡ true → run_by (live f a cs) End reply chosen ≡ cs
  end_runs f a cs Committed chosen h = refl
  end_runs f a cs (Answers x) chosen h = absurd cc
  end_runs f a cs (Refuses x) chosen h = absurd cc
  end_runs f a cs Begun chosen h = absurd cc
  end_runs f a cs (GivenUp x) chosen h = absurd cc
  end_runs f a cs (Aborted x y) chosen h = absurd cc
  end_runs f a cs (Busy x) chosen h = absurd cc
  end_runs f a cs InTransaction chosen h = absurd cc
  end_runs f a cs NotInTransaction chosen h = absurd cc
  end_runs f a cs HistoryFull chosen h = absurd cc
  end_runs f a cs NoMemory chosen h = absurd cc
  end_runs f a cs NoProcess chosen h = absurd cc

  live_runs : (f : _) (a : ℕ) (cs ds : List Executed) (op : Op) (reply : Reply) (chosen : List ℕ) → cs ≡ ds → suits_live f op reply ≡ true → run_by (live f a cs) op reply chosen ≡ (if is_end op then ds else [])
  live_runs f a cs ds End reply chosen e h = end_runs f a cs reply chosen h ∙ e
  live_runs f a cs ds (Do call) reply chosen e h = refl
  live_runs f a cs ds (Begin flags) reply chosen e h = refl
  live_runs f a cs ds (Abort no_restart) reply chosen e h = refl

  -- what an entry that suits runs, by what is kept
  pub run_is : (b : Bool) (t : Option Transaction) (s : Status) (op : Op) (reply : Reply) (chosen : List ℕ) → IsKept es t s → suits_kept b t op reply ≡ true → run_by (if b then s else gone) op reply chosen ≡ run_kept b t es op reply chosen
  run_is false t s op reply chosen h u = refl
  run_is true None idle op reply chosen h u = idle_runs op reply chosen
  run_is true None gone op reply chosen h u = absurd h
  run_is true None (live f a cs) op reply chosen h u = absurd h
  run_is true None (doomed c f a) op reply chosen h u = absurd h
  run_is true (Some (Live f ps)) (live g a cs) op reply chosen h u = live_runs g a cs (calls_at_positions es ps) op reply chosen h.1 (subst (λ x. suits_live x op reply ≡ true) h.0 u)
  run_is true (Some (Live f ps)) idle op reply chosen h u = absurd h
  run_is true (Some (Live f ps)) gone op reply chosen h u = absurd h
  run_is true (Some (Live f ps)) (doomed c g a) op reply chosen h u = absurd h
  run_is true (Some (Doomed f)) (doomed c g a) op reply chosen h u = refl
  run_is true (Some (Doomed f)) idle op reply chosen h u = absurd h
  run_is true (Some (Doomed f)) gone op reply chosen h u = absurd h
  run_is true (Some (Doomed f)) (live g a cs) op reply chosen h u = absurd h

  doomed_is : (t : Option Transaction) (s : Status) (cause : Cause) → IsKept es t s → IsKept es (doomed_kept t) (doom s cause)
  doomed_is None idle cause h = tt
  doomed_is None gone cause h = absurd h
  doomed_is None (live f a cs) cause h = absurd h
  doomed_is None (doomed c f a) cause h = absurd h
  doomed_is (Some (Live f ps)) (live g a cs) cause h = h.0
  doomed_is (Some (Live f ps)) idle cause h = absurd h
  doomed_is (Some (Live f ps)) gone cause h = absurd h
  doomed_is (Some (Live f ps)) (doomed c g a) cause h = absurd h
  doomed_is (Some (Doomed f)) (doomed c g a) cause h = h
  doomed_is (Some (Doomed f)) idle cause h = absurd h
  doomed_is (Some (Doomed f)) gone cause h = absurd h
  doomed_is (Some (Doomed f)) (live g a cs) cause h = absurd h

  settled_is : (t : Option Transaction) (s : Status) (again : Bool) → IsKept es t s → IsKept es (settled_kept t again) (settled s again)
  settled_is None idle again h = tt
  settled_is None gone again h = absurd h
  settled_is None (live f a cs) again h = absurd h
  settled_is None (doomed c f a) again h = absurd h
  settled_is (Some (Live f ps)) (live g a cs) true h = (h.0, refl)
  settled_is (Some (Live f ps)) (live g a cs) false h = tt
  settled_is (Some (Live f ps)) idle again h = absurd h
  settled_is (Some (Live f ps)) gone again h = absurd h
  settled_is (Some (Live f ps)) (doomed c g a) again h = absurd h
  settled_is (Some (Doomed f)) (doomed c g a) true h = (h, refl)
  settled_is (Some (Doomed f)) (doomed c g a) false h = tt
  settled_is (Some (Doomed f)) idle again h = absurd h
  settled_is (Some (Doomed f)) gone again h = absurd h
  settled_is (Some (Doomed f)) (live g a cs) again h = absurd h

  begun_is : (t : Option Transaction) (s : Status) (op : Op) (position : ℕ) → IsKept es t s → IsKept es (begun_kept t op) (begun s op position)
  begun_is None idle (Begin flags) position h = (refl, refl)
  begun_is None idle (Do call) position h = tt
  begun_is None idle End position h = tt
  begun_is None idle (Abort no_restart) position h = tt
  begun_is None gone op position h = absurd h
  begun_is None (live f a cs) op position h = absurd h
  begun_is None (doomed c f a) op position h = absurd h
  begun_is (Some (Live f ps)) (live g a cs) op position h = h
  begun_is (Some (Live f ps)) idle op position h = absurd h
  begun_is (Some (Live f ps)) gone op position h = absurd h
  begun_is (Some (Live f ps)) (doomed c g a) op position h = absurd h
  begun_is (Some (Doomed f)) (doomed c g a) op position h = h
  begun_is (Some (Doomed f)) idle op position h = absurd h
  begun_is (Some (Doomed f)) gone op position h = absurd h
  begun_is (Some (Doomed f)) (live g a cs) op position h = absurd h

  -- the call of an entry by its answer
  abbrev called_by : Op → Option (Result Answer Errno) → List ℕ → List Executed
  called_by (Do call) o chosen = plain_calls call o chosen
  called_by (Begin flags) o chosen = []
  called_by End o chosen = []
  called_by (Abort no_restart) o chosen = []

  called_is : (op : Op) (reply : Reply) (chosen : List ℕ) → call_in op reply chosen ≡ called_by op (answer_in reply) chosen
  called_is (Do call) reply chosen = refl
  called_is (Begin flags) reply chosen = refl
  called_is End reply chosen = refl
  called_is (Abort no_restart) reply chosen = refl

  live_more : (f g : _) (ps : List ℕ) (a : ℕ) (cs : List Executed) (at : ℕ) (op : Op) (o : Option (Result Answer Errno)) (chosen : List ℕ) → f ≡ g → cs ≡ calls_at_positions es ps → call_first (drop at es) ≡ called_by op o chosen
      → IsKept es (Some (Live f (ps ++ at ∷ []))) (with_call (live g a cs) op o chosen)
  live_more f g ps a cs at (Do call) (Some x) chosen e is here = (e, ap (λ ds. ds ++ (record { call = call; answer = x; chosen = chosen } ∷ [])) is ∙ ap (λ ds. calls_at_positions es ps ++ ds) (sym here) ∙ sym (calls-more es ps at))
  live_more f g ps a cs at (Do call) None chosen e is here = (e, is ∙ sym (append-nil (calls_at_positions es ps)) ∙ ap (λ ds. calls_at_positions es ps ++ ds) (sym here) ∙ sym (calls-more es ps at))
  live_more f g ps a cs at (Begin flags) o chosen e is here = (e, is ∙ sym (append-nil (calls_at_positions es ps)) ∙ ap (λ ds. calls_at_positions es ps ++ ds) (sym here) ∙ sym (calls-more es ps at))
  live_more f g ps a cs at End o chosen e is here = (e, is ∙ sym (append-nil (calls_at_positions es ps)) ∙ ap (λ ds. calls_at_positions es ps ++ ds) (sym here) ∙ sym (calls-more es ps at))
  live_more f g ps a cs at (Abort no_restart) o chosen e is here = (e, is ∙ sym (append-nil (calls_at_positions es ps)) ∙ ap (λ ds. calls_at_positions es ps ++ ds) (sym here) ∙ sym (calls-more es ps at))

  more_is : (t : Option Transaction) (s : Status) (at : ℕ) (op : Op) (o : Option (Result Answer Errno)) (chosen : List ℕ) → IsKept es t s → call_first (drop at es) ≡ called_by op o chosen → IsKept es (with_position at t) (with_call s op o chosen)
  more_is None idle at op o chosen h here = tt
  more_is None gone at op o chosen h here = absurd h
  more_is None (live f a cs) at op o chosen h here = absurd h
  more_is None (doomed c f a) at op o chosen h here = absurd h
  more_is (Some (Live f ps)) (live g a cs) at op o chosen h here = live_more f g ps a cs at op o chosen h.0 h.1 here
  more_is (Some (Live f ps)) idle at op o chosen h here = absurd h
  more_is (Some (Live f ps)) gone at op o chosen h here = absurd h
  more_is (Some (Live f ps)) (doomed c g a) at op o chosen h here = absurd h
  more_is (Some (Doomed f)) (doomed c g a) at op o chosen h here = h
  more_is (Some (Doomed f)) idle at op o chosen h here = absurd h
  more_is (Some (Doomed f)) gone at op o chosen h here = absurd h
  more_is (Some (Doomed f)) (live g a cs) at op o chosen h here = absurd h

  own_is : (t : Option Transaction) (s : Status) (at position : ℕ) (op : Op) (reply : Reply) (chosen : List ℕ) → IsKept es t s → call_first (drop at es) ≡ call_in op reply chosen → IsKept es (own_kept at t op reply) (own_next position s op reply chosen)
  own_is t s at position op (Answers x) chosen h here = more_is t s at op _ chosen h (here ∙ called_is op (Answers x) chosen)
  own_is t s at position op (Refuses x) chosen h here = more_is t s at op _ chosen h (here ∙ called_is op (Refuses x) chosen)
  own_is t s at position op Begun chosen h here = begun_is t s op position h
  own_is t s at position op Committed chosen h here = tt
  own_is t s at position op (GivenUp again) chosen h here = settled_is t s again h
  own_is t s at position op (Aborted why again) chosen h here = settled_is t s again h
  own_is t s at position op (Busy x) chosen h here = h
  own_is t s at position op InTransaction chosen h here = h
  own_is t s at position op NotInTransaction chosen h here = h
  own_is t s at position op HistoryFull chosen h here = h
  own_is t s at position op NoMemory chosen h here = h
  own_is t s at position op NoProcess chosen h here = h

  -- what is kept of each process after an entry
  next_is : (m : Moment) (e : Entry) (at q : ℕ) (t : Option Transaction) → IsKept es t (m.phase q) → call_first (drop at es) ≡ call_in e.op e.reply e.chosen → IsKept es (next_kept at e q t) (next_phase m e q)
  next_is m e at q t h here = by_both (q == e.pid) (is_in q e.doomed) where
    own : (b : Bool) → IsKept es (if b then own_kept at t e.op e.reply else t) (if b then own_next (m.entries + 1) (m.phase q) e.op e.reply e.chosen else m.phase q)
    own true = own_is t (m.phase q) at (m.entries + 1) e.op e.reply e.chosen h here
    own false = h

    by_both : (b d : Bool) → IsKept es (if d then doomed_kept (if b then own_kept at t e.op e.reply else t) else (if b then own_kept at t e.op e.reply else t))
        (if d then doom (if b then own_next (m.entries + 1) (m.phase q) e.op e.reply e.chosen else m.phase q) (doom_cause m e.pid (dooming_touches m e.pid e.op) q) else (if b then own_next (m.entries + 1) (m.phase q) e.op e.reply e.chosen else m.phase q))
    by_both b true = doomed_is _ _ _ (own b)
    by_both b false = own b

after_more : (m : Moment) (es : List Entry) (e : Entry) → after_from m (es ++ e ∷ []) ≡ next (after_from m es) e
after_more m [] e = refl
after_more m (d ∷ es) e = after_more (next m d) es e

suit_more : (m : Moment) (es : List Entry) (e : Entry) → AllSuit m es → suits (status (after_from m es) e.pid) e.op e.reply ≡ true → AllSuit m (es ++ e ∷ [])
suit_more m [] e h u = (u, tt)
suit_more m (d ∷ es) e h u = (h.0, suit_more (next m d) es e h.1 u)

serial_more : (m : Moment) (es : List Entry) (e : Entry) → serial_from m (es ++ e ∷ []) ≡ serial_from m es ++ items e.pid (run_by (status (after_from m es) e.pid) e.op e.reply e.chosen)
serial_more m [] e = append-nil (items e.pid (run_by (status m e.pid) e.op e.reply e.chosen))
serial_more m (d ∷ es) e = ap (λ is. items d.pid (run_by (status m d.pid) d.op d.reply d.chosen) ++ is) (serial_more (next m d) es e) ∙ sym (append_assoc (items d.pid (run_by (status m d.pid) d.op d.reply d.chosen)) (serial_from (next m d) es) (items e.pid (run_by (status (after_from (next m d) es) e.pid) e.op e.reply e.chosen)))

take_more : (es : List Entry) (at : ℕ) (e : Entry) (rest : List Entry) → drop at es ≡ e ∷ rest → take (at + 1) es ≡ take at es ++ e ∷ []
take_more es at e rest h = ap (λ n. take n es) (add-one at) ∙ take_next es at e rest h

-- before any entry
pub follows_none : (root : ℕ) (setup : Setup) (es : List Entry) (k : Kernel) (kept : FinMap nat_cmp Transaction) → k ≡ start root setup → kept ≡ empty → Follows root setup es 0 k kept
follows_none root setup es k kept is none =
    let tidied : IsTidied (start root setup) = record { well = calls_are_lawful_lem.well_start root setup; tidied = calls_are_lawful_lem.tidy_start root setup } in
    record {
      suit = tt;
      run = is;
      tidied = subst IsTidied (sym is) tidied;
      committed = is;
      phases = λ q. subst (λ (t : Option Transaction). IsKept es t idle) (sym (ap (λ m. get m q) none ∙ get-empty nat_cmp q)) tt;
      positions = λ q. subst (λ (t : Option Transaction). AreNext root setup es q 0 t) (sym (ap (λ m. get m q) none ∙ get-empty nat_cmp q)) tt;
    }

-- one entry more
pub follows_more : (root : ℕ) (setup : Setup) (es : List Entry) (at : ℕ) (k : Kernel) (kept : FinMap nat_cmp Transaction) (e : Entry) (rest : List Entry) (l : Kernel) (next_kept_is : FinMap nat_cmp Transaction)
    → Follows root setup es at k kept → drop at es ≡ e ∷ rest → suits_kept (is_alive k e.pid) (get kept e.pid) e.op e.reply ≡ true
    → Ran k e.pid (run_kept (is_alive k e.pid) (get kept e.pid) es e.op e.reply e.chosen) l
    → ((q : ℕ) → get next_kept_is q ≡ next_kept at e q (get kept q))
    → Follows root setup es (at + 1) l next_kept_is
follows_more root setup es at k kept e rest l then_kept f here suit ran later =
    let m : Moment = after root setup (take at es) in
    let more : take (at + 1) es ≡ take at es ++ e ∷ [] = take_more es at e rest here in
    let now : after root setup (take at es ++ e ∷ []) ≡ next m e = after_more (at_start root setup) (take at es) e in
    let first : call_first (drop at es) ≡ call_in e.op e.reply e.chosen = ap call_first here in
    let is_status : status m e.pid ≡ (if is_alive k e.pid then m.phase e.pid else gone) = ap (λ x. if is_alive x e.pid then m.phase e.pid else gone) (sym f.committed) in
    let suits_now : suits (status m e.pid) e.op e.reply ≡ true = ap (λ s. suits s e.op e.reply) is_status ∙ suits_is es (is_alive k e.pid) (get kept e.pid) (m.phase e.pid) e.op e.reply (f.phases e.pid) ∙ suit in
    let runs : run_by (status m e.pid) e.op e.reply e.chosen ≡ run_kept (is_alive k e.pid) (get kept e.pid) es e.op e.reply e.chosen =
    ap (λ s. run_by s e.op e.reply e.chosen) is_status ∙ run_is es (is_alive k e.pid) (get kept e.pid) (m.phase e.pid) e.op e.reply e.chosen (f.phases e.pid) suit in
    let ran_now : Run k (items e.pid (run_by (status m e.pid) e.op e.reply e.chosen)) l = subst (λ cs. Run k (items e.pid cs) l) (sym runs) ran.run in
    let phases : (q : ℕ) → IsKept es (next_kept at e q (get kept q)) ((after root setup (take (at + 1) es)).phase q) = λ q.
    subst (λ xs. IsKept es (next_kept at e q (get kept q)) ((after root setup xs).phase q)) (sym more) (subst (λ (x : Moment). IsKept es (next_kept at e q (get kept q)) (x.phase q)) (sym now) (next_is es m e at q (get kept q) (f.phases q) first)) in
    record {
      suit = subst (AllSuit (at_start root setup)) (sym more) (suit_more (at_start root setup) (take at es) e f.suit suits_now);
      run = subst (λ xs. Run (start root setup) (serial root setup xs) l) (sym more) (subst (λ is. Run (start root setup) is l) (sym (serial_more (at_start root setup) (take at es) e)) (run_append _ k l _ _ f.run ran_now));
      tidied = ran.tidied;
      committed = run_leads e.pid _ k l ran_now ∙ ap (after_list e.pid (run_by (status m e.pid) e.op e.reply e.chosen)) f.committed ∙ ap (λ (x : Moment). x.committed) (sym now) ∙ ap (λ xs. (after root setup xs).committed) (sym more);
      phases = λ q. subst (λ (t : Option Transaction). IsKept es t ((after root setup (take (at + 1) es)).phase q)) (sym (later q)) (phases q);
      positions = λ q. subst (λ (t : Option Transaction). AreNext root setup es q (at + 1) t) (sym (later q)) (next_positions root setup es q at (get kept q) e (f.phases q) (f.positions q) (phases q));
    }

-- the entry at a position
heads : (x y : Entry) (xs ys : List Entry) → ◌≡◌ {A = List Entry} (x ∷ xs) (y ∷ ys) → x ≡ y
heads x y xs ys h = cc

module _ (es : List Entry) (at : ℕ) (d : Entry) where
  begins : at < length es → d ≡ get_or es at d → drop at es ≡ d ∷ drop (at + 1) es
  begins low is = drop_more es at d low ∙ ap (λ (x : Entry). x ∷ drop (at + 1) es) (sym is)

  pub holds_entry : at < length es → d ≡ get_or es at d → HoldsEntry es at d
  holds_entry low is = record { rest = drop (at + 1) es; here = begins low is }

  pub call_here : at < length es → d ≡ get_or es at d → call_first (drop at es) ≡ call_of d
  call_here low is = ap call_first (begins low is)

  -- what its process runs at its position
  pub ran_at : (kept : Option Transaction) (k l : Kernel) → at < length es → d ≡ get_or es at d → is_alive k d.pid ≡ true
      → Ran k d.pid (run_kept true kept es d.op d.reply d.chosen) l → RanAt es at kept k l
  ran_at kept k l low is alive ran = λ e held.
      subst (λ (x : Entry). Ran k x.pid (run_kept (is_alive k x.pid) kept es x.op x.reply x.chosen) l) (heads d e _ _ (sym (begins low is) ∙ held.here))
      (subst (λ (b : Bool). Ran k d.pid (run_kept b kept es d.op d.reply d.chosen) l) (sym alive) ran)

  pub gone_at : (kept : Option Transaction) (k : Kernel) → at < length es → d ≡ get_or es at d → is_alive k d.pid ≡ false → IsTidied k → RanAt es at kept k k
  gone_at kept k low is dead t = λ e held.
      subst (λ (x : Entry). Ran k x.pid (run_kept (is_alive k x.pid) kept es x.op x.reply x.chosen) k) (heads d e _ _ (sym (begins low is) ∙ held.here))
      (ran_nothing k d.pid _ (ap (λ b. run_kept b kept es d.op d.reply d.chosen) dead) t)

pub no_call_here : (es : List Entry) (at : ℕ) → length es ≤ at → call_first (drop at es) ≡ []
no_call_here es at past = ap call_first (drop_all at es past)

-- the call at one position more
pub ran_more : (es : List Entry) (ps : List ℕ) (i p d : ℕ) (k mid l : Kernel) (pid : ℕ) → i < length ps → p ≡ get_or ps i d
    → Ran k pid (calls_at_positions es (take i ps)) mid → Ran mid pid (call_first (drop p es)) l → Ran k pid (calls_at_positions es (take (i + 1) ps)) l
ran_more es ps i p d k mid l pid low is before ran =
    let more : take (i + 1) ps ≡ take i ps ++ p ∷ [] = list_more ps i d low ∙ ap (λ (x : ℕ). take i ps ++ x ∷ []) (sym is) in
    subst (λ (cs : List Executed). Ran k pid cs l) (sym (calls-more es (take i ps) p) ∙ ap (calls_at_positions es) (sym more))
    (ran_append k mid l pid _ _ before ran)

-- all entries
pub passes_all : (root : ℕ) (setup : Setup) (es : List Entry) (at : ℕ) (k : Kernel) (kept : FinMap nat_cmp Transaction) → Follows root setup es at k kept → length es ≤ at → Passes root setup es
passes_all root setup es at k kept f past = record {
  suit = subst (AllSuit (at_start root setup)) (take_all at es past) f.suit;
  exists = record { committed = k; run = subst (λ (xs : List Entry). Run (start root setup) (serial root setup xs) k) (take_all at es past) f.run };
}

-- what the checker does with one entry: it suits, its calls run, and what is kept is kept
pub follows_entry : (root : ℕ) (setup : Setup) (es : List Entry) (at : ℕ) (k l : Kernel) (kept then_kept : FinMap nat_cmp Transaction) (d : Entry) (alive : Bool) (t : Option Transaction)
    → at < length es → d ≡ get_or es at d → alive ≡ is_alive k d.pid → t ≡ get kept d.pid → suits_kept alive t d.op d.reply ≡ true → RanAt es at t k l
    → ((q : ℕ) → get then_kept q ≡ next_kept at d q (get kept q))
    → Follows root setup es at k kept → Follows root setup es (at + 1) l then_kept
follows_entry root setup es at k l kept then_kept d alive t low is lives was suit ran later f =
    follows_more root setup es at k kept d (drop (at + 1) es) l then_kept f (begins es at d low is)
    (ap (λ o. suits_kept (is_alive k d.pid) o d.op d.reply) (sym was) ∙ ap (λ b. suits_kept b t d.op d.reply) (sym lives) ∙ suit)
    (subst (λ (o : Option Transaction). Ran k d.pid (run_kept (is_alive k d.pid) o es d.op d.reply d.chosen) l) was (ran d (holds_entry es at d low is)))
    later
