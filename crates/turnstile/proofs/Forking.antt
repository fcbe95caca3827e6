-- A step that makes a process, and the pass of that process.
use Rattle.std.proofs.Common.{◌≡◌, ◌≢◌, ℕ, suc, ◌<◌, Option, Some, None, [], sym, refl, ap, ◌∙◌, subst, arith}
use Rattle.atomic_table.specs.Table.{Me}
use Rattle.atomic_table.specs.Seated.{TableId}
use Rattle.history.specs.Log.{Log}
use Rattle.history_laws.specs.Processes.{child_in}
use Rattle.machine.specs.Steps.{IsStep}
use Rattle.machine.specs.Shown.{Shown, Kept}
use Rattle.model.specs.State.{Kernel as State}
use Rattle.model.specs.Calls.{Fork, Child, Done, Descriptor, Count, New_place, Bytes, Pair, Stated, Listing}
use Rattle.model.specs.Entries.{Op, Do, Reply, Answers, Refuses, Begun, Committed, GivenUp, Aborted, Busy, InTransaction, NotInTransaction, HistoryFull, NoMemory, NoProcess}
use Rattle.turnstile.specs.Histories.{IsLegal, made_of, own, shown}
use Rattle.turnstile.specs.Rule.{having_seen, Follows}
use Rattle.turnstile.specs.Passes.{pass_view, pass_of}
use Rattle.turnstile.specs.Holding.{KernelSeat, IsSameSeat, HasTaken, Stepped, taker_of, child_of}
use Rattle.turnstile.specs.declared.rule.PassState.{PassState}
use Rattle.turnstile.specs.declared.rule.Role.{Role}
use Rattle.turnstile.specs.declared.rule.Role.TheVariants.{Process}
use Rattle.turnstile.proofs.Calls.{child_is_next, made_moves, step_follows, step_shown}

abbrev M : Type 0 → Type 0
M K = Me (Option K) Role

-- a seat with the role of a pass has that pass
pub is_pass : {K : Type 0} (m : M K) (o : PassState) → m ≡ (Process o, []) → m ≡ (Process (pass_of m.0), [])
is_pass {K = K} m o is = is ∙ sym (ap (λ (m : M K). (Process (pass_of m.0), [])) is)

pub pass_is : {K : Type 0} (m : M K) (o : PassState) → m ≡ (Process o, []) → pass_of m.0 ≡ o
pass_is {K = K} m o is = ap (λ (m : M K). pass_of m.0) is

-- the reply that tells of a child
pub told_child : (reply : Reply) (n : ℕ) → child_in reply ≡ Some n → reply ≡ Answers (Child n)
told_child (Answers (Child pid)) n e = let same : pid ≡ n = cc in ap (λ m. Answers (Child m)) same
told_child (Answers Done) n e = absurd cc
told_child (Answers (Descriptor fd)) n e = absurd cc
told_child (Answers (Count c)) n e = absurd cc
told_child (Answers (New_place p)) n e = absurd cc
told_child (Answers (Bytes bs)) n e = absurd cc
told_child (Answers (Pair a b)) n e = absurd cc
told_child (Answers (Stated s)) n e = absurd cc
told_child (Answers (Listing ns)) n e = absurd cc
told_child (Refuses errno) n e = absurd cc
told_child Begun n e = absurd cc
told_child Committed n e = absurd cc
told_child (GivenUp again) n e = absurd cc
told_child (Aborted why again) n e = absurd cc
told_child (Busy cause) n e = absurd cc
told_child InTransaction n e = absurd cc
told_child NotInTransaction n e = absurd cc
told_child HistoryFull n e = absurd cc
told_child NoMemory n e = absurd cc
told_child NoProcess n e = absurd cc

pub told_none : (reply : Reply) → child_in reply ≡ None → (n : ℕ) → reply ≢ Answers (Child n)
told_none reply none n e = let some : child_in reply ≡ Some n = ap child_in e in absurd cc

-- a step that tells of a child
pub fork_step : (k k' : Shown) (pid n : ℕ) (reply : Reply) → IsStep k k' pid (Do Fork) reply → child_in reply ≡ Some n → IsStep (shown k.log) (shown k'.log) pid (Do Fork) (Answers (Child n))
fork_step k k' pid n reply step told = subst (λ (r : Reply). IsStep (shown k.log) (shown k'.log) pid (Do Fork) r) (told_child reply n told) (step_shown k k' pid (Do Fork) reply step)

-- how many processes the history of a kernel has made
pub made_is : (k : Shown) → Kept k → made_of k.log ≡ k.state.made
unfolding made_of
made_is k kept = ap (λ (s : State). s.made) (sym kept.state)

module _ {K : Type 0} (p q r : KernelSeat K) (k k' : Log) (pid : ℕ) (op : Op) (reply : Reply) (taken : HasTaken p k q) (pid_is : pid ≡ (pass_of p.me.0).pid) (legal : IsLegal k') (step : IsStep (shown k) (shown k') pid op reply) where
  taker_is : taker_of q.me.0 ≡ having_seen (pass_of p.me.0) k
  taker_is = ap (λ (m : M K). taker_of m.0) taken.me

  follows : Follows (pass_of p.me.0).pid k k'
  follows = subst (λ n. Follows n k k') pid_is (step_follows k k' pid op reply taken.learns.lawful legal step)

  pub follows_taken : Follows (taker_of q.me.0).pid (taker_of q.me.0).seen k'
  follows_taken = subst (λ (x : PassState). Follows x.pid x.seen k') (sym taker_is) follows

  pub stepped : IsSameSeat q r → r.me ≡ (Process (having_seen (taker_of q.me.0) k'), []) → Stepped q op reply r
  stepped same me = record {
    log = k';
    same = same;
    me = me;
    legal = legal;
    step = subst (λ (x : PassState). IsStep (shown x.seen) (shown k') x.pid op reply) (sym taker_is) (subst (λ n. IsStep (shown k) (shown k') n op reply) pid_is step);
  }

-- what follows where a process was made
module _ {K : Type 0} (p q : KernelSeat K) (k k' : Log) (pid n : ℕ) (op : Op) (taken : HasTaken p k q) (pid_is : pid ≡ (pass_of p.me.0).pid) (legal : IsLegal k') (step : IsStep (shown k) (shown k') pid op (Answers (Child n))) where
  next : n ≡ suc (made_of k)
  next = child_is_next k k' pid op (Answers (Child n)) taken.learns.lawful legal step.entry n refl

  pub child_pid : n ≡ made_of k'
  child_pid = let made = made_moves k k' pid op (Answers (Child n)) taken.learns.lawful legal step.entry in let is = next in omega arith

  pub newer : made_of (taker_of q.me.0).seen < made_of k'
  newer = let is = next in let made = child_pid in subst (λ (x : PassState). made_of x.seen < made_of k') (sym (taker_is p q q k k' pid op (Answers (Child n)) taken pid_is legal step)) (omega arith)

  pub child_own : own n k' ≡ own n (pass_of p.me.0).start
  child_own = let was = taken.learns.was_made in let is = next in
      (follows p q q k k' pid op (Answers (Child n)) taken pid_is legal step).others n (λ e. omega arith) ∙ taken.learns.not_made n (omega arith)

-- what contracts see of the pass of the process that was made
pub child_made : (z z' : TableId) (o w w' : PassState) (k : Log) (n : ℕ) → z' ≡ z → n ≡ made_of k → w ≡ having_seen o k → w' ≡ child_of o k
    → pass_view z' w' ≡ record { gate = (pass_view z w).gate; pid = n; seen = (pass_view z w).seen }
child_made z z' o w w' k n tables is at child =
    (λ i. pass_view (tables i) (child i)) ∙ ((λ i. record { gate = record { table = z; start = o.start }; pid = sym is i; seen = k }) ∙ (λ i. record { gate = record { table = z; start = (sym at i).start }; pid = n; seen = (sym at i).seen }))
