-- What steps do to the processes of a kernel.
use Rattle.std.proofs.Common.{◌≡◌, ◌≢◌, ℕ, suc, ◌+◌, ◌≤◌, arith, Bool, true, false, MatchBool, [], ◌∷◌, ◌++◌, inl, inr, refl, sym, ap, ◌∙◌, subst}
use Rattle.std.specs.Prelude.{Some, Result, IfOk}
use Rattle.history.specs.Log.{Log}
use Rattle.machine.specs.Shown.{Kept, Shown, limit_of, moment, setup_of}
use Rattle.machine.specs.Steps.{Added, IsStep, entry_of, forgetting, is_no_entry}
use Rattle.model.specs.Changes.{process_of}
use Rattle.model.specs.Calls.{Call, Child}
use Rattle.model.specs.Entries.{Op, Do, Begin, End, Abort, Reply, Answers, Refuses, Begun, Committed, GivenUp, Aborted, Busy, InTransaction, NotInTransaction, HistoryFull, NoMemory, NoProcess, Entry}
use Rattle.model.specs.Legal.{Legal}
use Rattle.model.specs.Moments.{Moment, next, priority_of}
use Rattle.model.specs.State.{Kernel}
use Rattle.history_laws.specs.Processes.{ProcessesMove, born, child_in, is_ended}
use Rattle.history_laws.proofs.Laws.{after_one_more, beginnings_are_legal, forks_and_exits_move, legality_follows}
use Rattle.ids.specs.declared.reply.Answer.TheVariants as answer
use Rattle.course.specs.Course.{IsTaken, Ran}
use Rattle.course.specs.Courses.{calling}
use Rattle.course.specs.Faults as faults
use Rattle.course.specs.declared.fault.Fault.{Fault}
use Rattle.course.specs.Hands.{IsChild, Stand, is_ending, made_in, priority_in}

pub stand_same : (v : Shown) → Stand v v
stand_same v = record { made = omega arith; priority = λ pid h. refl }

pub stand_then : {a b c : Shown} → Stand a b → Stand b c → Stand a c
stand_then h k = record {
  made = (let x = h.made in let y = k.made in omega arith);
  priority = λ pid low. k.priority pid (let x = h.made in omega arith) ∙ h.priority pid low;
}

-- an operation that does not end its process
not_ended : (op : Op) (reply : Reply) → is_ending op ≡ false → is_ended op reply ≡ false
not_ended (Do call) (Answers answer) h = h
not_ended (Do call) (Refuses e) h = refl
not_ended (Do call) Begun h = refl
not_ended (Do call) Committed h = refl
not_ended (Do call) (GivenUp again) h = refl
not_ended (Do call) (Aborted why again) h = refl
not_ended (Do call) (Busy cause) h = refl
not_ended (Do call) InTransaction h = refl
not_ended (Do call) NotInTransaction h = refl
not_ended (Do call) HistoryFull h = refl
not_ended (Do call) NoMemory h = refl
not_ended (Do call) NoProcess h = refl
not_ended (Begin flags) reply h = refl
not_ended End reply h = refl
not_ended (Abort none) reply h = refl

-- one entry more
module _ (old new : Shown) (pid : ℕ) (op : Op) (reply : Reply) (was : old.state ≡ (moment old.log).committed) (is : Kept new) (added : Added old.log new.log pid op reply) where
  abbrev last : Entry
  last = entry_of pid op reply added.chosen added.doomed

  moves : ProcessesMove (moment old.log) last
  moves = let legal : Legal 0 (setup_of old.log) (limit_of old.log) (old.log.entries ++ last ∷ []) = subst (λ (l : Log). Legal 0 (setup_of l) (limit_of l) l.entries) added.is is.legal in
      forks_and_exits_move 0 (setup_of old.log) (limit_of old.log) old.log.entries last (beginnings_are_legal 0 (setup_of old.log) (limit_of old.log) old.log.entries (old.log.entries ++ last ∷ []) (last ∷ [], refl) legal) (legality_follows.rest 0 (setup_of old.log) (limit_of old.log) old.log.entries (last ∷ []) legal).1

  state_is : new.state ≡ (next (moment old.log) last).committed
  state_is = is.state ∙ (ap (λ (l : Log). (moment l).committed) added.is ∙ ap (λ (m : Moment). m.committed) (after_one_more 0 (setup_of old.log) old.log.entries last))

  made_moves : made_in new ≡ made_in old + born reply
  made_moves = ap (λ (k : Kernel). k.made) state_is ∙ (moves.made ∙ ap (λ (k : Kernel). k.made + born reply) (sym was))

  priority_now : (q : ℕ) → priority_in new q ≡ priority_of (next (moment old.log) last) q
  priority_now q = ap (λ (k : Kernel). (process_of k q).priority) state_is

  priority_was : (q : ℕ) → priority_of (moment old.log) q ≡ priority_in old q
  priority_was q = ap (λ (k : Kernel). (process_of k q).priority) (sym was)

  made_was : (moment old.log).committed.made ≡ made_in old
  made_was = ap (λ (k : Kernel). k.made) (sym was)

  no_child : (q : ℕ) → q ≤ made_in old → child_in reply ≢ Some q
  no_child q low h = let is_next = (moves.born q h).number in let there = made_was in omega arith

  entry_stands : is_ending op ≡ false → Stand old new
  entry_stands goes_on = record {
    made = (let m = made_moves in omega arith);
    priority = λ q low. priority_now q ∙ ((moves.others q (no_child q low) (inl (not_ended op reply goes_on))).priority ∙ priority_was q);
  }

  entry_bears : (child : ℕ) → child_in reply ≡ Some child → born reply ≡ 1 → IsChild old pid child new
  entry_bears child h one = let b = moves.born child h in record {
    number = b.number ∙ ap suc made_was;
    made = (let m = made_moves in let n = b.number in let there = made_was in omega arith);
    priority = priority_now child ∙ (b.priority ∙ priority_was pid);
  }

step_stands : (old new : Shown) (pid : ℕ) (op : Op) (reply : Reply) → old.state ≡ (moment old.log).committed → Kept new → is_ending op ≡ false → IsStep old new pid op reply → Stand old new
step_stands old new pid op reply was is goes_on s = go (is_no_entry reply) s.entry
  where
    go : (b : Bool) → MatchBool b (new ≡ old) (Added old.log new.log pid op reply) → Stand old new
    go true e = subst (λ (v : Shown). Stand old v) (sym e) (stand_same old)
    go false a = entry_stands old new pid op reply was is a goes_on

pub taken_stands : (old new : Shown) (pid : ℕ) (op : Op) (reply : Reply) → Kept old → Kept new → is_ending op ≡ false → IsTaken old new pid op reply → Stand old new
taken_stands old new pid op reply was is goes_on (inl s) = step_stands old new pid op reply was.state is goes_on s
taken_stands old new pid op reply was is goes_on (inr s) = let h = step_stands (forgetting old) new pid op reply was.state is goes_on s in record { made = h.made; priority = h.priority }

-- a fork that was answered by a child
step_bears : (old new : Shown) (pid : ℕ) (op : Op) (child : ℕ) → old.state ≡ (moment old.log).committed → Kept new → IsStep old new pid op (Answers (Child child)) → IsChild old pid child new
step_bears old new pid op child was is s = entry_bears old new pid op (Answers (Child child)) was is s.entry child refl refl

taken_bears : (old new : Shown) (pid : ℕ) (op : Op) (child : ℕ) → Kept old → Kept new → IsTaken old new pid op (Answers (Child child)) → IsChild old pid child new
taken_bears old new pid op child was is (inl s) = step_bears old new pid op child was.state is s
taken_bears old new pid op child was is (inr s) = let h = step_bears (forgetting old) new pid op child was.state is s in record { number = h.number; made = h.made; priority = h.priority }

reply_bears : (old new : Shown) (pid : ℕ) (op : Op) (reply : Reply) → Kept old → Kept new → IsTaken old new pid op reply → IfOk (faults.child_in reply) (λ child. IsChild old pid child new)
reply_bears old new pid op (Answers (Child child)) was is t = taken_bears old new pid op child was is t
reply_bears old new pid op (Answers answer.Done) was is t = tt
reply_bears old new pid op (Answers (answer.Fd fd)) was is t = tt
reply_bears old new pid op (Answers (answer.Count n)) was is t = tt
reply_bears old new pid op (Answers (answer.Place n)) was is t = tt
reply_bears old new pid op (Answers (answer.Bytes b)) was is t = tt
reply_bears old new pid op (Answers (answer.Pair r w)) was is t = tt
reply_bears old new pid op (Answers (answer.Stat s)) was is t = tt
reply_bears old new pid op (Answers (answer.Names ns)) was is t = tt
reply_bears old new pid op (Refuses e) was is t = tt
reply_bears old new pid op Begun was is t = tt
reply_bears old new pid op Committed was is t = tt
reply_bears old new pid op (GivenUp again) was is t = tt
reply_bears old new pid op (Aborted why again) was is t = tt
reply_bears old new pid op (Busy cause) was is t = tt
reply_bears old new pid op InTransaction was is t = tt
reply_bears old new pid op NotInTransaction was is t = tt
reply_bears old new pid op HistoryFull was is t = tt
reply_bears old new pid op NoMemory was is t = tt
reply_bears old new pid op NoProcess was is t = tt

pub call_bears : (old new : Shown) (pid : ℕ) (call : Call) (reply : Reply) (result : Result ℕ Fault) → Kept old → Kept new → Ran old (calling pid call) reply new → result ≡ faults.child_in reply → IfOk result (λ child. IsChild old pid child new)
call_bears old new pid call reply result was is ran e =
    let h = ran.is in
    let here : IsTaken old new pid (Do call) reply = subst (λ (v : Shown). IsTaken old v pid (Do call) reply) (sym h.3.1) (subst (λ (r : Reply). IsTaken old h.1 pid (Do call) r) (sym h.3.0) h.2) in
    subst (λ (r : Result ℕ Fault). IfOk r (λ child. IsChild old pid child new)) (sym e) (reply_bears old new pid (Do call) reply was is here)
