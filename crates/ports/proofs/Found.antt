-- Each process that was made has a port among those that come back.
use Rattle.std.proofs.Common.{◌≡◌, ℕ, zero, suc, ◌<◌, ◌≤◌, List, [], ◌∷◌, ◌++◌, ◌⊎◌, inl, inr, length, map, refl, sym, ◌∙◌, ap, subst, Bool, arith}
use Rattle.std.specs.Prelude.{if◌then◌else◌}
use Rattle.std.specs.List.{AllByRecursion}
use Rattle.std.proofs.lemmas.Bool.{cases_lt, eq-eqb}
use Rattle.std.proofs.lemmas.List.{map-append}
use Rattle.history.specs.Log.{Log}
use Rattle.history_laws.proofs.Laws.{children_are_forked, own_entries_follow}
use Rattle.history_laws.specs.Processes.{IsForked}
use Rattle.ids.specs.declared.call.Op.{Op}
use Rattle.ids.specs.declared.entry.Entry.{Entry}
use Rattle.ids.specs.declared.reply.Reply.{Reply}
use Rattle.machine.specs.Shown.{limit_of, setup_of, moment}
use Rattle.model.specs.Legal.{Legal, mine}
use Rattle.ports.specs.Ports.{done_by, replied, work_in}
use Rattle.script.specs.declared.read.Line.{Line}
use Rattle.script.specs.Steps.{ops_for}
use Rattle.turnstile.specs.Calls.{KeepsPass}
use Rattle.turnstile.specs.Histories.{own}
use Rattle.turnstile.specs.Passes.{Gate, PassView}
use Rattle.workers.specs.Families.{AreFamilies, HaveOneHome, child_of, children}
use Rattle.workers.specs.Port.{child_reply, fork}
use Rattle.workers.specs.Work.{IsWork}

abbrev pub Among : {A : Type 0} → List A → A → Type 0
Among [] x = ⊥
Among (y ∷ ys) x = (y ≡ x) ⊎ Among ys x

pub among_left : {A : Type 0} (xs ys : List A) (x : A) → Among xs x → Among (xs ++ ys) x
among_left [] ys x a = absurd a
among_left (y ∷ xs) ys x (inl is) = inl is
among_left (y ∷ xs) ys x (inr a) = inr (among_left xs ys x a)

pub among_right : {A : Type 0} (xs ys : List A) (x : A) → Among ys x → Among (xs ++ ys) x
among_right [] ys x a = a
among_right (y ∷ xs) ys x a = inr (among_right xs ys x a)

pub all_among : {A : Type 0} (P : A → Type 0) (xs : List A) (x : A) → AllByRecursion P xs → Among xs x → P x
all_among P [] x all a = absurd a
all_among P (y ∷ xs) x all (inl is) = subst P is all.0
all_among P (y ∷ xs) x all (inr a) = all_among P xs x all.1 a

-- the passes are those of the waiting processes, family by family
abbrev pub AreWorked : List Line → Gate → List ℕ → List PassView → Type 0
AreWorked lines h waiting passes = AreFamilies (λ (p : PassView). p.pid) (λ (p : PassView). p.gate) done_by lines h waiting passes

-- one of the passes is the process's, which has done its work
pub record Found (lines : List Line) (passes : List PassView) (q : ℕ) : Type 0 where
  pub pass : PassView
  pub among : Among passes pass
  pub number : pass.pid ≡ q
  pub work : IsWork (ops_for q lines) (done_by pass)

later : (lines : List Line) (p : PassView) (passes : List PassView) (q : ℕ) → Found lines passes q → Found lines (p ∷ passes) q
later lines p passes q f = record { pass = f.pass; among = inr f.among; number = f.number; work = f.work }

-- all of them go to the turnstile
pub gates : (lines : List Line) (h : Gate) (waiting : List ℕ) (passes : List PassView) → AreWorked lines h waiting passes → AllByRecursion (λ (p : PassView). p.gate ≡ h) passes
gates lines h waiting [] f = tt
gates lines h [] (p ∷ passes) f = absurd f
gates lines h (n ∷ waiting) (p ∷ passes) f = (f.1, gates lines h (children (done_by p) ++ waiting) passes f.3)

pub waiting_found : (lines : List Line) (h : Gate) (waiting : List ℕ) (passes : List PassView) → AreWorked lines h waiting passes → (q : ℕ) → Among waiting q → Found lines passes q
waiting_found lines h waiting [] f q a = absurd (subst (λ (w : List ℕ). Among w q) f a)
waiting_found lines h [] (p ∷ passes) f q a = absurd f
waiting_found lines h (n ∷ waiting) (p ∷ passes) f q (inl is) = record {
  pass = p;
  among = inl refl;
  number = f.0 ∙ is;
  work = subst (λ (n : ℕ). IsWork (ops_for n lines) (done_by p)) is f.2;
}
waiting_found lines h (n ∷ waiting) (p ∷ passes) f q (inr a) =
    later lines p passes q (waiting_found lines h (children (done_by p) ++ waiting) passes f.3 q (among_right (children (done_by p)) waiting q a))

child_found : (lines : List Line) (h : Gate) (waiting : List ℕ) (passes : List PassView) → AreWorked lines h waiting passes → (p : PassView) → Among passes p → (q : ℕ) → Among (children (done_by p)) q → Found lines passes q
child_found lines h waiting [] f p a q c = absurd a
child_found lines h [] (x ∷ passes) f p a q c = absurd f
child_found lines h (n ∷ waiting) (x ∷ passes) f p (inl is) q c =
    later lines x passes q (waiting_found lines h (children (done_by x) ++ waiting) passes f.3 q (among_left (children (done_by x)) waiting q (subst (λ (y : PassView). Among (children (done_by y)) q) (sym is) c)))
child_found lines h (n ∷ waiting) (x ∷ passes) f p (inr a) q c =
    later lines x passes q (child_found lines h (children (done_by x) ++ waiting) passes f.3 p a q c)

-- a fork's entry makes its child one of the children
child_among : (before rest : List (Op × Reply)) (q : ℕ) → Among (children (before ++ (fork, child_reply q) ∷ rest)) q
child_among [] rest q = inl refl
child_among (x ∷ before) rest q = among_right (child_of x.0 x.1) (children (before ++ (fork, child_reply q) ∷ rest)) q (child_among before rest q)

mine_first : (e : Entry) (es : List Entry) → mine e.pid (e ∷ es) ≡ e ∷ mine e.pid es
mine_first e es = ap (λ (b : Bool). if b then e ∷ mine e.pid es else mine e.pid es) (eq-eqb e.pid e.pid refl)

-- the child of a fork is among the children of its process
forked_among : (log : Log) (q : ℕ) (f : IsForked log.entries q) → Among (children (work_in log f.fork.pid)) q
forked_among log q f =
    let pid = f.fork.pid in
    let entries : own pid log ≡ mine pid f.before ++ f.fork ∷ mine pid f.later =
    ap (mine pid) f.among ∙ own_entries_follow.append pid f.before (f.fork ∷ f.later) ∙ ap (λ (es : List Entry). mine pid f.before ++ es) (mine_first f.fork f.later) in
    let one : replied f.fork ≡ (fork, child_reply q) = ap (λ (o : Op). (o, f.fork.reply)) f.asked ∙ ap (λ (r : Reply). (fork, r)) f.answered in
    let done : work_in log pid ≡ map replied (mine pid f.before) ++ (fork, child_reply q) ∷ map replied (mine pid f.later) =
    ap (map replied) entries ∙ map-append replied (mine pid f.before) (f.fork ∷ mine pid f.later) ∙ ap (λ (x : Op × Reply). map replied (mine pid f.before) ++ x ∷ map replied (mine pid f.later)) one in
    subst (λ (xs : List (Op × Reply)). Among (children xs) q) (sym done) (child_among (map replied (mine pid f.before)) (map replied (mine pid f.later)) q)

module _ (lines : List Line) (h : Gate) (waiting : List ℕ) (passes : List PassView) (log : Log) (worked : AreWorked lines h waiting passes) (kept : AllByRecursion (KeepsPass log) passes)
    (legal : Legal 0 (setup_of log) (limit_of log) log.entries) (first : (q : ℕ) → 0 < q → q ≤ length log.priorities → Among waiting q) where
  -- what a process did that has a pass
  did : (q : ℕ) (f : Found lines passes q) → work_in log q ≡ done_by f.pass
  did q f = ap (work_in log) (sym f.number) ∙ ap (map replied) (all_among (KeepsPass log) passes f.pass kept f.among).own_kept

  found : (n q : ℕ) → q ≤ n → 0 < q → q ≤ (moment log).committed.made → Found lines passes q
  found zero q low positive made = absurd (omega arith)
  found (suc n) q low positive made = elim (cases_lt (length log.priorities) q) [
    | inr initial ↦ waiting_found lines h waiting passes worked q (first q positive initial)
    | inl later ↦ (
        let f = children_are_forked 0 (setup_of log) (limit_of log) log.entries legal q later made in
        let earlier : f.fork.pid < q = f.earlier in
        let parent = found n f.fork.pid (omega arith) f.number (omega arith) in
        child_found lines h waiting passes worked parent.pass parent.among q
        (subst (λ (xs : List (Op × Reply)). Among (children xs) q) (did f.fork.pid parent) (forked_among log q f)))
  ]

  pub works : (q : ℕ) → 0 < q → q ≤ (moment log).committed.made → IsWork (ops_for q lines) (work_in log q)
  works q positive made =
      let f = found q q (omega arith) positive made in
      subst (λ (xs : List (Op × Reply)). IsWork (ops_for q lines) xs) (sym (did q f)) f.work

all_at : (h g : Gate) (ports : List PassView) → g ≡ h → AllByRecursion (λ (p : PassView). p.gate ≡ h) ports → AllByRecursion (λ (p : PassView). p.gate ≡ g) ports
all_at h g [] is all = tt
all_at h g (p ∷ ports) is all = (all.0 ∙ sym is, all_at h g ports is all.1)

-- ports to one turnstile have one home
pub one_home : (h : Gate) (ports : List PassView) → AllByRecursion (λ (p : PassView). p.gate ≡ h) ports → HaveOneHome (λ (p : PassView). p.gate) ports
one_home h [] all = tt
one_home h (p ∷ ports) all = all_at h p.gate ports all.0 all.1
