-- How the limit moves where entries are forgotten, and that a history stays legal.
use Rattle.std.proofs.Common.{◌≡◌, ℕ, ◌+◌, ◌-◌, ◌<◌, ◌≤◌, List, [], ◌∷◌, ◌++◌, refl, sym, ◌∙◌, ap, true, false, Bool, inl, inr, leb-true, le-leb, arith, length}
use Rattle.std.specs.Prelude.{if◌then◌else◌, nat_le, not, ◌&&◌, sum}
use Rattle.std.proofs.lemmas.Bool.{cases_Bool, lt-leb}
use Rattle.std.proofs.lemmas.List.Sums.{sum_by-cons}
use Rattle.ids.specs.Flags.{is_restarting}
use Rattle.model.specs.Entries.{BeginFlags, Op, Do, Begin, End, Abort, Clash, GivenUp, Aborted, Entry, is_inside}
use Rattle.model.specs.Forgetting.{Limit, limit_at, forgotten_by}
use Rattle.model.specs.Calls.{Call}
use Rattle.model.specs.Moments.{Status, gone, idle, live, doomed, Moment, status, reserved, next, at_start}
use Rattle.model.specs.Legal.{Inside, RightAt, Right, restarts, LegalFrom, Legal, Free}
use Rattle.history_laws.specs.Forgetting.{forgetting, ForgettingIsLegal}

-- the branch of a test that is known
when : (count n a b : ℕ) → nat_le count n ≡ true → (if nat_le count n then a else b) ≡ a
when count n a b h = ap (λ t. if t then a else b) h

unless : (count n a b : ℕ) → nat_le count n ≡ false → (if nat_le count n then a else b) ≡ b
unless count n a b h = ap (λ t. if t then a else b) h

forgotten_rises : (gs : List ℕ) (n k : ℕ) → n ≤ k → forgotten_by gs n ≤ forgotten_by gs k
forgotten_rises [] n k h = omega arith
forgotten_rises (g ∷ gs) n k h = elim (cases_Bool (nat_le g n)) [
  | inr above ↦ (let none : forgotten_by (g ∷ gs) n ≡ 0 = unless g n (g + forgotten_by gs (n - g)) 0 above in omega (arith, none))
  | inl below ↦
      let low : g ≤ n = leb-true g n below in
      let there : nat_le g k ≡ true = le-leb g k (omega arith) in
      let rest : forgotten_by gs (n - g) ≤ forgotten_by gs (k - g) = forgotten_rises gs (n - g) (k - g) (omega arith) in
      let at_n : forgotten_by (g ∷ gs) n ≡ g + forgotten_by gs (n - g) = when g n (g + forgotten_by gs (n - g)) 0 below in
      let at_k : forgotten_by (g ∷ gs) k ≡ g + forgotten_by gs (k - g) = when g k (g + forgotten_by gs (k - g)) 0 there in
      omega (arith, rest, at_n, at_k)
]

pub limit_rises : (limit : Limit) (n : ℕ) → limit_at limit n ≤ limit_at limit (n + 1)
limit_rises limit n = (let rest : forgotten_by limit.forgotten n ≤ forgotten_by limit.forgotten (n + 1) = forgotten_rises limit.forgotten n (n + 1) (omega arith) in omega (arith, rest))

all_forgotten : (gs : List ℕ) (n : ℕ) → sum gs ≤ n → forgotten_by gs n ≡ sum gs
all_forgotten [] n h = refl
all_forgotten (g ∷ gs) n h =
    let parts : sum (g ∷ gs) ≡ g + sum gs = sum_by-cons (λ x. x) g gs in
    let rest : forgotten_by gs (n - g) ≡ sum gs = all_forgotten gs (n - g) (omega arith) in
    let here : forgotten_by (g ∷ gs) n ≡ g + forgotten_by gs (n - g) = when g n (g + forgotten_by gs (n - g)) 0 (le-leb g n (omega arith)) in
    omega (arith, rest, here)

-- what is forgotten later changes nothing before
forgotten_before : (gs : List ℕ) (count n : ℕ) → n < sum gs + count → forgotten_by (gs ++ count ∷ []) n ≡ forgotten_by gs n
forgotten_before [] count n h = (let none : sum [] ≡ 0 = refl in unless count n (count + forgotten_by [] (n - count)) 0 (lt-leb count n (omega arith)))
forgotten_before (g ∷ gs) count n h = elim (cases_Bool (nat_le g n)) [
  | inr above ↦ unless g n (g + forgotten_by (gs ++ count ∷ []) (n - g)) 0 above ∙ sym (unless g n (g + forgotten_by gs (n - g)) 0 above)
  | inl below ↦
      let parts : sum (g ∷ gs) ≡ g + sum gs = sum_by-cons (λ x. x) g gs in
      let low : g ≤ n = leb-true g n below in
      let rest : forgotten_by (gs ++ count ∷ []) (n - g) ≡ forgotten_by gs (n - g) = forgotten_before gs count (n - g) (omega arith) in
      ap (λ x. if nat_le g n then g + x else 0) rest
]

-- what is right by a limit is right by another that is the same here
right_alike : (a b : Limit) (m : Moment) (e : Entry) → limit_at a m.entries ≡ limit_at b m.entries → Right a m e → Right b m e
right_alike a b m e same = by_status (status m e.pid) e.op where
  free : (needed : ℕ) → Free a m needed → Free b m needed
  free needed h = omega (arith, same, h)

  anew : (flags : BeginFlags) (op : Op) → restarts a m flags op ≡ restarts b m flags op
  anew flags (Abort no_restart) = ap (λ x. is_restarting flags && (not no_restart && nat_le (m.entries + reserved m + 1) x)) same
  anew flags (Do call) = ap (λ x. is_restarting flags && nat_le (m.entries + reserved m + 1) x) same
  anew flags (Begin new) = ap (λ x. is_restarting flags && nat_le (m.entries + reserved m + 1) x) same
  anew flags End = ap (λ x. is_restarting flags && nat_le (m.entries + reserved m + 1) x) same

  inside : (s : Status) (flags : BeginFlags) (call : Call) (is : Bool) → Inside a m e s flags call is → Inside b m e s flags call is
  inside s flags call true r = (r.0, free 1 r.1)
  inside s flags call false r = (r.0, r.1, free 1 r.2)

  by_status : (s : Status) (op : Op) → RightAt a m e s op → RightAt b m e s op
  by_status (doomed cause flags age) op r = (r.0 ∙ ap (λ x. Aborted (Clash cause) x) (anew flags op), r.1)
  by_status (live flags age calls) End r = r
  by_status (live flags age calls) (Abort no_restart) r = (r.0 ∙ ap (λ x. GivenUp x) (anew flags (Abort no_restart)), r.1)
  by_status gone op r = (r.0, r.1, free 1 r.2)
  by_status idle (Begin flags) r = (r.0, r.1, free 2 r.2)
  by_status (live flags age calls) (Begin new) r = (r.0, r.1, free 1 r.2)
  by_status idle End r = (r.0, r.1, free 1 r.2)
  by_status idle (Abort no_restart) r = (r.0, r.1, free 1 r.2)
  by_status (live flags age calls) (Do call) r = inside (live flags age calls) flags call (is_inside call) r
  by_status idle (Do call) r = (r.0, free 1 r.1)

legal_alike : (a b : Limit) (m : Moment) (es : List Entry) → ((n : ℕ) → n < m.entries + length es → limit_at a n ≡ limit_at b n) → LegalFrom a m es → LegalFrom b m es
legal_alike a b m [] same legal = legal
legal_alike a b m (e ∷ es) same legal = (legal.0, right_alike a b m e (same m.entries (omega arith)) legal.1, legal_alike a b (next m e) es (λ n h. same n (omega (arith, h))) legal.2)

pub forgetting_is_legal : ForgettingIsLegal
unfolding Legal
forgetting_is_legal = record {
  rises = limit_rises;
  all = λ limit n h. ap (λ x. limit.capacity + x) (all_forgotten limit.forgotten n h);
  legal = λ root setup limit es count all legal. legal_alike limit (forgetting limit count) (at_start root setup) es
      (λ n h. ap (λ x. limit.capacity + x) (sym (forgotten_before limit.forgotten count n (omega (arith, h, all))))) legal;
}
