-- One call: the kernel is taken, makes a step and is given back.
use Rattle.std.proofs.Common.{◌≡◌, ℕ, suc, ◌+◌, arith, Bool, true, false, MatchBool, IfSome, IfNone, Option, Some, None, List, [], ◌∷◌, ◌++◌, refl, sym, ap, ◌∙◌, subst}
use Rattle.atomic_table.specs.Table.{Me, rest}
use Rattle.atomic_table.specs.Seated.{TableId}
use Rattle.history.specs.Log.{Log}
use Rattle.machine.specs.Shown.{limit_of, setup_of, Shown, moment}
use Rattle.machine.specs.Steps.{is_no_entry, has_place, Added, IsStep}
use Rattle.model.specs.Calls.{Child}
use Rattle.model.specs.Entries.{Op, Reply, Answers, Entry}
use Rattle.model.specs.Legal.{Legal}
use Rattle.model.specs.Moments.{Moment}
use Rattle.history_laws.specs.Processes.{ProcessesMove, born, child_in}
use Rattle.history_laws.proofs.Laws.{after_one_more, forks_and_exits_move, legality_follows}
use Rattle.turnstile.specs.Histories.{IsLegal, Begins, made_of, own, shown}
use Rattle.turnstile.specs.Rule.{having_seen, Follows, Learns}
use Rattle.turnstile.specs.Passes.{pass_view, pass_of}
use Rattle.turnstile.specs.Calls.{IsSamePass, Called, Ends}
use Rattle.turnstile.specs.Holding.{KernelSeat, HasTaken, Stepped, taker_of}
use Rattle.turnstile.specs.declared.rule.PassState.{PassState}
use Rattle.turnstile.specs.declared.rule.Role.{Role}
use Rattle.turnstile.specs.declared.rule.Role.TheVariants.{Takes}
use Rattle.turnstile.proofs.Beginnings.{before_self, before_trans, last, before_added, own_added, own_other}

-- the history of a kernel, by what contracts see of it
abbrev pub history : {K : Type 0} → (K → Shown) → K → Log
history shown k = (shown k).log

pub same_seat : {K : Type 0} (p q : KernelSeat K) → q.table_id ≡ p.table_id → q.id ≡ p.id → q.me ≡ p.me → q ≡ p
same_seat p q t i m = λ k. record { marker = q.marker; table_id = t k; id = i k; me = m k }

-- a step is told by the histories alone
pub step_shown : (k k' : Shown) (pid : ℕ) (op : Op) (reply : Reply) → IsStep k k' pid op reply → IsStep (shown k.log) (shown k'.log) pid op reply
step_shown k k' pid op reply s = record { entry = go (is_no_entry reply) s.entry; full = s.full; memory = s.memory }
  where
    go : (b : Bool) → MatchBool b (k' ≡ k) (Added k.log k'.log pid op reply) → MatchBool b (shown k'.log ≡ shown k.log) (Added k.log k'.log pid op reply)
    go true e = ap (λ (k : Shown). shown k.log) e
    go false a = a

abbrev log_is : (old new : Log) → shown new ≡ shown old → new ≡ old
log_is old new e = ap (λ (k : Shown). k.log) e

-- what one entry more does to the processes
module _ (old new : Log) (pid : ℕ) (op : Op) (reply : Reply) (was : IsLegal old) (is : IsLegal new) (added : Added old new pid op reply) where
  moves : ProcessesMove (moment old) (last old new pid op reply added)
  moves = let e : Entry = last old new pid op reply added in
      let legal : Legal 0 (setup_of old) (limit_of old) (old.entries ++ e ∷ []) = subst (λ (l : Log). Legal 0 (setup_of l) (limit_of l) l.entries) added.is is.legal in
      forks_and_exits_move 0 (setup_of old) (limit_of old) old.entries e was.legal (legality_follows.rest 0 (setup_of old) (limit_of old) old.entries (e ∷ []) legal).1

  pub made_moves : made_of new ≡ made_of old + born reply
  unfolding made_of
  made_moves = ap (λ (l : Log). (moment l).committed.made) added.is ∙ (ap (λ (m : Moment). m.committed.made) (after_one_more 0 (setup_of old) old.entries (last old new pid op reply added)) ∙ moves.made)

  pub child_is_next : (n : ℕ) → reply ≡ Answers (Child n) → n ≡ suc (made_of old)
  unfolding made_of
  child_is_next n e = (moves.born n (ap child_in e)).number

-- a step of a process changes the history by an entry of its own, or not at all
pub step_follows : (old new : Log) (pid : ℕ) (op : Op) (reply : Reply) → IsLegal old → IsLegal new → IsStep (shown old) (shown new) pid op reply → Follows pid old new
step_follows old new pid op reply was is s = go (is_no_entry reply) s.entry
  where
    go : (b : Bool) → MatchBool b (shown new ≡ shown old) (Added old new pid op reply) → Follows pid old new
    go true e = subst (λ x. Follows pid old x) (sym (log_is old new e)) record { longer = before_self old; more_made = omega arith; others = λ q ne. refl }
    go false a = let made = made_moves old new pid op reply was is a in record { longer = before_added old new pid op reply a; more_made = omega arith; others = λ q ne. own_other old new pid op reply a q ne }

step_called : (z : TableId) (o : PassState) (old new : Log) (op : Op) (reply : Reply) → Begins o.seen old → own o.pid old ≡ own o.pid o.seen → IsStep (shown old) (shown new) o.pid op reply
    → Called (pass_view z o) op reply (pass_view z (having_seen o new))
step_called z o old new op reply before same s = record {
  found = old;
  longer = before;
  own_found = same;
  step = s;
  own_after = go (is_no_entry reply) s.entry;
  full = λ e. ap (λ x. has_place x o.pid op) (log_is old new (subst (λ r. MatchBool (is_no_entry r) (shown new ≡ shown old) (Added old new o.pid op r)) e s.entry)) ∙ s.full.0 e;
}
  where
    go : (b : Bool) → MatchBool b (shown new ≡ shown old) (Added old new o.pid op reply) → MatchBool b (own o.pid new ≡ own o.pid o.seen) (Ends (pass_view z o) op reply (pass_view z (having_seen o new)))
    go true e = ap (own o.pid) (log_is old new e) ∙ same
    go false a = record {
      entry = last old new o.pid op reply a;
      of_pid = refl;
      of_op = refl;
      of_reply = refl;
      before = old.entries;
      last = ap (λ (l : Log). l.entries) a.is;
      own_grew = own_added old new o.pid op reply a ∙ ap (λ x. x ++ last old new o.pid op reply a ∷ []) same;
    }

-- what the pass of a seat has seen after the call
pub called_pass : {K : Type 0} (p q r : KernelSeat K) (log : Log) (op : Op) (reply : Reply) → HasTaken p log q → Stepped q op reply r
    → IsSamePass (pass_view p.table_id (pass_of p.me.0)) (pass_view r.table_id (pass_of r.me.0)) × Called (pass_view p.table_id (pass_of p.me.0)) op reply (pass_view r.table_id (pass_of r.me.0))
called_pass {K = K} p q r log op reply taken stepped = let o : PassState = pass_of p.me.0 in let new : Log = stepped.log in
    let taker : taker_of q.me.0 ≡ having_seen o log = ap (λ (m : Me (Option K) Role). taker_of m.0) taken.me in
    let step : IsStep (shown log) (shown new) o.pid op reply = subst (λ (x : PassState). IsStep (shown x.seen) (shown new) x.pid op reply) taker stepped.step in
    let pass_is : pass_of r.me.0 ≡ having_seen o new = ap (λ (m : Me (Option K) Role). pass_of m.0) stepped.me ∙ ap (λ (x : PassState). having_seen x new) taker in
    let table : r.table_id ≡ p.table_id = stepped.same.0 ∙ taken.same.0 in
    let P : TableId × PassState → Type 0 = λ x. IsSamePass (pass_view p.table_id o) (pass_view x.0 x.1) × Called (pass_view p.table_id o) op reply (pass_view x.0 x.1) in
    subst P (λ i. (sym table i, sym pass_is i)) (
      record {
        gate = refl;
        pid = refl;
        legal = stepped.legal;
        longer = before_trans o.seen log new taken.learns.before (step_follows log new o.pid op reply taken.learns.lawful stepped.legal step).longer;
      },
      step_called p.table_id o log new op reply taken.learns.before taken.learns.entries step,
    )

-- the kernel that comes out of the slot
pub takes_out : {K : Type 0} (shown : K → Shown) (p q r : KernelSeat K) (x : Option K) (k : K) → q.table_id ≡ p.table_id → q.id ≡ p.id → q.me ≡ (Takes (having_seen (pass_of p.me.0) (shown k).log), (0, Some k) ∷ []) → Learns IsLegal (pass_of p.me.0) (shown k).log
    → r.table_id ≡ q.table_id → r.id ≡ q.id → q.me.1 ≡ (0, x) ∷ rest q.me.1 → r.me ≡ (q.me.0, (0, None) ∷ rest q.me.1)
    → IfSome x (λ k. HasTaken p (shown k).log r) × IfNone x (r ≡ p)
takes_out {K = K} shown p q r x k t i is learns t' i' out me = let e : x ≡ Some k = ap head (sym out ∙ ap (λ (m : Me (Option K) Role). m.1) is) in
    subst (λ (x : Option K). IfSome x (λ k. HasTaken p (shown k).log r) × IfNone x (r ≡ p)) (sym e) (
      record {
        same = (t' ∙ t, i' ∙ i);
        me = me ∙ ap (λ (m : Me (Option K) Role). (m.0, (0, None) ∷ rest m.1)) is;
        learns = learns;
      },
      tt,
    )
  where
    head : List (ℕ × Option K) → Option K
    head [] = None
    head (y ∷ ys) = y.1
