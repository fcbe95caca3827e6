-- Where the checker stops, its root fails.
use Rattle.std.proofs.Common.{◌≡◌, ◌⊎◌, ℕ, suc, ◌+◌, ◌<◌, Bool, true, false, List, [], ◌∷◌, ◌++◌, length, get_or, take, drop, Option, Some, None, Result, Ok, Err, IsErrAnd, MatchResult, is_some, nat_cmp, inl, inr, refl, sym, ap, subst, ◌∙◌, take-append-drop, length-append, arith}
use Rattle.std.specs.Prelude.{if◌then◌else◌, MatchBool, MatchOption}
use Rattle.std.proofs.lemmas.List.{drop_more}
use Rattle.model.specs.FiniteMap.{FinMap, get}
use Rattle.model.specs.State.{Kernel}
use Rattle.model.specs.Plan.{Errno}
use Rattle.model.specs.Calls.{Call, Answer}
use Rattle.model.specs.Steps.{Run, CanBeChosen, edits, reply}
use Rattle.model.specs.Entries.{BeginFlags, Op, Do, Begin, End, Abort, Reply, Answers, Refuses, Begun, Committed, GivenUp, Aborted, Busy, InTransaction, NotInTransaction, HistoryFull, NoMemory, NoProcess, Entry, Executed, answer_in}
use Rattle.model.specs.Moments.{Setup, Status, gone, idle, live, doomed, Moment, status, after, at_start, is_alive, plain_calls, calls_of, run_by}
use Rattle.model.specs.Legal.{items}
use Rattle.model.proofs.Laws.{all-append}
use Rattle.model.specs.Suits.{suits, suits_live}
use Rattle.replay.specs.Transactions.{IsKept, call_in, call_first, call_of, calls_at_positions, suits_kept, is_end}
use Rattle.model.specs.Passing.{Passes}
use Rattle.replay.specs.Faults.{HoldsEntry, calls_before, commits_from}
use Rattle.replay.specs.Failing.{FailsAt}
use Rattle.replay.specs.Ran.{AreNext, CannotRun, Follows, Ran, StopsHere, StopsIn, StopsNow}
use Rattle.replay.specs.declared.transaction.Transaction.{Transaction}
use Rattle.replay.specs.declared.transaction.Transaction.TheVariants.{Live, Doomed}
use Rattle.replay.proofs.Following.{holds_entry, idle_runs, suits_is}
use Rattle.replay.proofs.Inside.{AreInside, IsInside, after_inside, alive_through}
use Rattle.replay.proofs.Placing.{calls-append, calls-more}
use Rattle.replay.proofs.Prefixes.{run_calls_split, run_same}

-- what one entry runs alone is one call, or none
record One (cs : List Executed) : Type 0 where
  call : Executed
  is : cs ≡ call ∷ []

one_call : (op : Op) (reply : Reply) (chosen : List ℕ) → (call_in op reply chosen ≡ []) ⊎ One (call_in op reply chosen)
one_call (Do call) reply chosen = by (answer_in reply) where
  by : (o : Option (Result Answer Errno)) → (plain_calls call o chosen ≡ []) ⊎ One (plain_calls call o chosen)
  by None = inl refl
  by (Some answer) = inr (record { call = record { call = call; answer = answer; chosen = chosen }; is = refl })
one_call (Begin flags) reply chosen = inl refl
one_call End reply chosen = inl refl
one_call (Abort no_restart) reply chosen = inl refl

one_first : (es : List Entry) → (call_first es ≡ []) ⊎ One (call_first es)
one_first [] = inl refl
one_first (e ∷ es) = one_call e.op e.reply e.chosen

-- what cannot run is one call
the_call : (k : Kernel) (pid : ℕ) (cs : List Executed) → is_alive k pid ≡ true → CannotRun k pid cs → (cs ≡ []) ⊎ One cs → One cs
the_call k pid cs alive fails (inl none) = absurd (fails alive k (subst (λ xs. Run k (items pid xs) k) (sym none) refl))
the_call k pid cs alive fails (inr one) = one

take_front : (xs : List Executed) (c : Executed) (ys : List Executed) → take (length xs) (xs ++ c ∷ ys) ≡ xs
take_front [] c ys = refl
take_front (x ∷ xs) c ys = ap (λ zs. x ∷ zs) (take_front xs c ys)

take_one_more : (xs : List Executed) (c : Executed) (ys : List Executed) → take (suc (length xs)) (xs ++ c ∷ ys) ≡ xs ++ c ∷ []
take_one_more [] c ys = refl
take_one_more (x ∷ xs) c ys = ap (λ zs. x ∷ zs) (take_one_more xs c ys)

end_commits : (f : BeginFlags) (a : ℕ) (cs : List Executed) (op : Op) (reply : Reply) → is_end op ≡ true → suits_live f op reply ≡ true → commits_from (live f a cs) op reply ≡ true
end_commits f a cs End Committed h g = refl
end_commits f a cs (Do call) reply h g = absurd cc
end_commits f a cs (Begin flags) reply h g = absurd cc
end_commits f a cs (Abort no_restart) reply h g = absurd cc
end_commits f a cs End (Answers x) h g = absurd cc
end_commits f a cs End (Refuses x) h g = absurd cc
end_commits f a cs End Begun h g = absurd cc
end_commits f a cs End (GivenUp x) h g = absurd cc
end_commits f a cs End (Aborted x y) h g = absurd cc
end_commits f a cs End (Busy x) h g = absurd cc
end_commits f a cs End InTransaction h g = absurd cc
end_commits f a cs End NotInTransaction h g = absurd cc
end_commits f a cs End HistoryFull h g = absurd cc
end_commits f a cs End NoMemory h g = absurd cc
end_commits f a cs End NoProcess h g = absurd cc

module _ (root : ℕ) (setup : Setup) (es : List Entry) (at : ℕ) (k : Kernel) (kept : FinMap nat_cmp Transaction) (f : Follows root setup es at k kept) (e : Entry) (here : HoldsEntry es at e) where
  abbrev m : Moment
  m = after root setup (take at es)

  abbrev passes_so_far : Passes root setup (take at es)
  passes_so_far = record { suit = f.suit; exists = record { committed = k; run = f.run } }

  status_is : (b : Bool) → is_alive k e.pid ≡ b → status m e.pid ≡ (if b then m.phase e.pid else gone)
  status_is b alive = ap (λ x. if is_alive x e.pid then m.phase e.pid else gone) (sym f.committed) ∙ ap (λ x. if x then m.phase e.pid else gone) alive

  -- an entry that does not suit
  unsuited : suits_kept (is_alive k e.pid) (get kept e.pid) e.op e.reply ≡ false → FailsAt root setup es at at
  unsuited h = record {
    entry = e;
    here = here;
    passes = passes_so_far;
    how = inl (record {
      same = refl;
      unsuited = ap (λ s. suits s e.op e.reply) (status_is (is_alive k e.pid) refl) ∙ suits_is es (is_alive k e.pid) (get kept e.pid) (m.phase e.pid) e.op e.reply (f.phases e.pid) ∙ h;
    });
  }

  module _ (alive : is_alive k e.pid ≡ true) (position : ℕ) where
    -- a call outside a transaction
    idle_stops : (position ≡ at) → CannotRun k e.pid (call_of e) → m.phase e.pid ≡ idle → suits idle e.op e.reply ≡ true → FailsAt root setup es at position
    idle_stops same fails phase fits =
        let is : status m e.pid ≡ idle = status_is true alive ∙ phase in
        let one : One (call_of e) = the_call k e.pid (call_of e) alive fails (one_call e.op e.reply e.chosen) in
        record {
          entry = e;
          here = here;
          passes = passes_so_far;
          how = inr (inl (record {
            same = same;
            suits = ap (λ s. suits s e.op e.reply) is ∙ fits;
            commits_not = ap (λ s. commits_from s e.op e.reply) is;
            call = one.call;
            only = ap (λ s. run_by s e.op e.reply e.chosen) is ∙ idle_runs es e.op e.reply e.chosen ∙ one.is;
            stops = record {
              here = ap (λ n. call_first (drop n es)) same ∙ ap call_first here.here ∙ one.is;
              mid = k;
              runs = refl;
              fails = λ l run. fails alive l (subst (λ cs. Run k (items e.pid cs) l) (sym one.is) run);
            };
          }));
        }

    -- a call of a transaction that ends
    module _ (flags same : BeginFlags) (age : ℕ) (calls : List Executed) (positions : List ℕ) (phase : m.phase e.pid ≡ live same age calls) (alike : IsKept es (Some (Live flags positions)) (live same age calls)) where
      is_live : status m e.pid ≡ live same age calls
      is_live = status_is true alive ∙ phase

      mine : calls_before root setup es e.pid at ≡ calls_at_positions es positions
      mine = ap calls_of phase ∙ alike.1

      live_stops : AreNext root setup es e.pid at (Some (Live flags positions)) → is_end e.op ≡ true → suits_live flags e.op e.reply ≡ true → StopsIn k e.pid es positions position → FailsAt root setup es at position
      live_stops next ends fits s =
          let first : List Executed = calls_at_positions es s.first in
          let parts : calls_before root setup es e.pid at ≡ first ++ (call_first (drop position es) ++ calls_at_positions es s.rest) = mine ∙ ap (calls_at_positions es) s.is ∙ calls-append es s.first (position ∷ s.rest) in
          let inside : AreInside (calls_before root setup es e.pid at) = after_inside (at_start root setup) (take at es) f.suit (λ q. tt) e.pid in
          let lives : is_alive s.mid e.pid ≡ true = alive_through e.pid first k s.mid f.tidied.well alive (all-append IsInside first _ (subst AreInside parts inside)).0 s.ran.run in
          let one : One (call_first (drop position es)) = the_call s.mid e.pid (call_first (drop position es)) lives s.fails (one_first (drop position es)) in
          let whole : calls_before root setup es e.pid at ≡ first ++ one.call ∷ calls_at_positions es s.rest = parts ∙ ap (λ cs. first ++ (cs ++ calls_at_positions es s.rest)) one.is in
          let front : take (length first) (calls_before root setup es e.pid at) ≡ first = ap (take (length first)) whole ∙ take_front first one.call (calls_at_positions es s.rest) in
          let placed = next s.first s.rest position s.is in
          let longer : length (calls_at_positions es (s.first ++ position ∷ [])) ≡ length first + 1 = ap length (calls-more es s.first position ∙ ap (λ cs. first ++ cs) one.is) ∙ length-append first (one.call ∷ []) in
          record {
            entry = e;
            here = here;
            passes = passes_so_far;
            how = inr (inr (record {
              commits = ap (λ t. commits_from t e.op e.reply) is_live ∙ end_commits same age calls e.op e.reply ends (subst (λ x. suits_live x e.op e.reply ≡ true) alike.0 fits);
              number = length first;
              is_call = record {
                before = placed.before;
                since = λ q low high. omega (arith, placed.since q low high, longer);
                earlier = placed.earlier;
              };
              call = one.call;
              with_it = ap (take (suc (length first))) whole ∙ take_one_more first one.call (calls_at_positions es s.rest) ∙ ap (λ cs. cs ++ one.call ∷ []) (sym front);
              stops = record {
                here = one.is;
                mid = s.mid;
                runs = subst (λ cs. Run k (items e.pid cs) s.mid) (sym front) s.ran.run;
                fails = λ l run.
                    let both = run_calls_split k e.pid first (one.call ∷ []) l (subst (λ cs. Run k (items e.pid (cs ++ one.call ∷ [])) l) {x = take (length first) (calls_before root setup es e.pid at)} {y = first} front run) in
                    s.fails lives l (subst (λ cs. Run s.mid (items e.pid cs) l) (sym one.is) (subst (λ x. Run x (items e.pid (one.call ∷ [])) l) {x = both.mid} {y = s.mid} (run_same k both.mid s.mid (items e.pid first) both.before s.ran.run) both.behind));
              };
            }));
          }

    -- by what is kept
    by_kept : (t : Option Transaction) (s : Status) → m.phase e.pid ≡ s → IsKept es t s → AreNext root setup es e.pid at t → suits_kept true t e.op e.reply ≡ true → StopsHere k t es at e position → FailsAt root setup es at position
    by_kept None idle phase alike next fits stops = idle_stops stops.0 stops.1 phase fits
    by_kept None gone phase alike next fits stops = absurd alike
    by_kept None (live flags age calls) phase alike next fits stops = absurd alike
    by_kept None (doomed cause flags age) phase alike next fits stops = absurd alike
    by_kept (Some (Live flags positions)) (live same age calls) phase alike next fits stops = live_stops flags same age calls positions phase alike next stops.0 fits stops.1
    by_kept (Some (Live flags positions)) gone phase alike next fits stops = absurd alike
    by_kept (Some (Live flags positions)) idle phase alike next fits stops = absurd alike
    by_kept (Some (Live flags positions)) (doomed cause same age) phase alike next fits stops = absurd alike
    by_kept (Some (Doomed flags)) s phase alike next fits stops = absurd stops

-- what the checker finds of the entry at a position
module _ (root : ℕ) (setup : Setup) (es : List Entry) (at : ℕ) (k : Kernel) (kept : FinMap nat_cmp Transaction) (d : Entry) (alive : Bool) (t : Option Transaction) (low : at < length es) (is : d ≡ get_or es at d) (lives : alive ≡ is_alive k d.pid) (was : t ≡ get kept d.pid) where
  pub fails_unsuited : suits_kept alive t d.op d.reply ≡ false → Follows root setup es at k kept → FailsAt root setup es at at
  fails_unsuited h f = unsuited root setup es at k kept f d (holds_entry es at d low is)
      (ap (λ o. suits_kept (is_alive k d.pid) o d.op d.reply) (sym was) ∙ ap (λ b. suits_kept b t d.op d.reply) (sym lives) ∙ h)

  pub fails_stopped : suits_kept alive t d.op d.reply ≡ true → (position : ℕ) → StopsNow es at t k position → Follows root setup es at k kept → FailsAt root setup es at position
  fails_stopped h position stops f =
      let here : HoldsEntry es at d = holds_entry es at d low is in
      let now = stops d here in
      by_kept root setup es at k kept f d here now.0 position (get kept d.pid) ((after root setup (take at es)).phase d.pid) refl (f.phases d.pid) (f.positions d.pid)
      (ap (λ o. suits_kept true o d.op d.reply) (sym was) ∙ ap (λ b. suits_kept b t d.op d.reply) (sym (lives ∙ now.0)) ∙ h)
      (subst (λ o. StopsHere k o es at d position) was now.1)

-- whether calls have run, by an equal list
pub ran_or_not : (b : Bool) (k l : Kernel) (pid : ℕ) (xs ys : List Executed) → xs ≡ ys → MatchBool b (Ran k pid xs l) (CannotRun k pid xs) → MatchBool b (Ran k pid ys l) (CannotRun k pid ys)
ran_or_not b k l pid xs ys same h = subst (λ cs. MatchBool b (Ran k pid cs l) (CannotRun k pid cs)) same h

pub ran_of : (b : Bool) (P Q : Type 0) → b ≡ true → MatchBool b P Q → P
ran_of b P Q is h = subst (λ b. MatchBool b P Q) is h

pub not_ran_of : (b : Bool) (P Q : Type 0) → b ≡ false → MatchBool b P Q → Q
not_ran_of b P Q is h = subst (λ b. MatchBool b P Q) is h

pub match_some : {P R : Type 0} {Q S : ℕ → Type 0} (o : Option ℕ) → MatchOption o P Q → (P → R) → ((n : ℕ) → Q n → S n) → MatchOption o R S
match_some None h f g = f h
match_some (Some n) h f g = g n h

pub match_none : (P : Type 0) (Q : ℕ → Type 0) (o : Option ℕ) → o ≡ None → MatchOption o P Q → P
match_none P Q o is h = subst (λ o. MatchOption o P Q) is h

pub match_position : (P : Type 0) (Q : ℕ → Type 0) (o : Option ℕ) (n : ℕ) → o ≡ Some n → MatchOption o P Q → Q n
match_position P Q o n is h = subst (λ o. MatchOption o P Q) is h

-- an error that is passed on
pub passed_on : {A E : Type 0} (P : A → Type 0) (Q : E → Type 0) (r : Result A E) (e : E) → IsErrAnd r (λ x. x ≡ e) → Q e → MatchResult r P Q
passed_on P Q (Ok x) e is h = absurd is
passed_on P Q (Err x) e is h = subst Q (sym is) h

-- the calls at positions, up to one that cannot run
pub stops_in : (k mid : Kernel) (pid : ℕ) (es : List Entry) (ps : List ℕ) (i p d : ℕ) → i < length ps → p ≡ get_or ps i d → Ran k pid (calls_at_positions es (take i ps)) mid → CannotRun mid pid (call_first (drop p es)) → StopsIn k pid es ps p
stops_in k mid pid es ps i p d low is ran fails = record {
  first = take i ps;
  rest = drop (i + 1) ps;
  is = sym (take-append-drop i ps) ∙ ap (λ qs. take i ps ++ qs) (drop_more ps i d low ∙ ap (λ (x : ℕ). x ∷ drop (i + 1) ps) (sym is));
  mid = mid;
  ran = ran;
  fails = fails;
}

-- of the entry at a position
pub stops_now : (es : List Entry) (at : ℕ) (d : Entry) (t : Option Transaction) (k : Kernel) (position : ℕ) → at < length es → d ≡ get_or es at d → is_alive k d.pid ≡ true → StopsHere k t es at d position → StopsNow es at t k position
stops_now es at d t k position low is alive stops = λ e held.
    subst (λ (x : Entry). (is_alive k x.pid ≡ true) × StopsHere k t es at x position) (heads d e _ _ (sym (holds_entry es at d low is).here ∙ held.here)) (alive, stops)
  where
    heads : (x y : Entry) (xs ys : List Entry) → ◌≡◌ {A = List Entry} (x ∷ xs) (y ∷ ys) → x ≡ y
    heads x y xs ys h = cc

-- A call that is not answered so, or whose numbers cannot be chosen, cannot be made.
module _ (k : Kernel) (pid : ℕ) (call : Call) (said : Reply) (chosen : List ℕ) where
  step_of : (o : Option (Result Answer Errno)) → is_some o ≡ true → (after : Kernel) → Run k (items pid (plain_calls call o chosen)) after → (o ≡ Some (reply k pid call)) × CanBeChosen k (edits k pid call) chosen
  step_of None h after run = absurd cc
  step_of (Some answer) h after run = (ap Some run.1.replied, run.1.numbers)

  pub not_answered : is_some (answer_in said) ≡ true → (answer_in said ≡ Some (reply k pid call) → ⊥) → CannotRun k pid (call_in (Do call) said chosen)
  not_answered h wrong alive after run = wrong (step_of (answer_in said) h after run).0

  pub not_chosen : is_some (answer_in said) ≡ true → (CanBeChosen k (edits k pid call) chosen → ⊥) → CannotRun k pid (call_in (Do call) said chosen)
  not_chosen h wrong alive after run = wrong (step_of (answer_in said) h after run).1

pub not_living : (k : Kernel) (pid : ℕ) (cs : List Executed) → is_alive k pid ≡ false → CannotRun k pid cs
not_living k pid cs dead alive after run = let e : true ≡ false = sym alive ∙ dead in cc
