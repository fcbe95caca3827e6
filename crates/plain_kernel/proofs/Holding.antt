-- Counts of holders and of ends, after a change of one process or of one description.
use Rattle.std.proofs.Common.{◌≡◌, ℕ, suc, ◌+◌, ◌-◌, ◌==◌, Bool, true, false, cond, List, [], ◌∷◌, map, Option, Some, None, MatchOption, eq-eqb, nat_cmp, refl, sym, ap, ◌∙◌, arith, nat_lt}
use Rattle.std.specs.List.{count_by, sum_by}
use Rattle.std.specs.Prelude.{if◌then◌else◌}
use Rattle.std.specs.Cmp.{nat_cmp_total}
use Rattle.std.proofs.lemmas.Bool.{eqb-true}
use Rattle.std.proofs.lemmas.List.Sums.{sum_by-cons}
use Rattle.model.specs.FiniteMap.{FinMap, get, empty, insert, remove, values, entries-empty, nat_cmp-IsAntisymmetric}
use Rattle.model.specs.State.{Kernel, Description, Process, ends, is_end}
use Rattle.model.specs.Changes.{at_offset, holders, is_held, or_new, with_slot, without_slot}
use Rattle.model.specs.Moments.{with_processes}
use Rattle.model.proofs.Laws.{weight, sum-insert, sum-remove}
use Rattle.plain_kernel.specs.Counts.{count_at, is_open}
use Rattle.plain_kernel.specs.Holders.{AreHoldersOf, Sought, One, End, ends_by, held_at, is_sought, passing, passing_of_all, passing_once}
use Rattle.plain_kernel.specs.declared.holders.Holders.{Holders}
use Rattle.plain_kernel.proofs.Keyed.{at_removed, at_set, gone}
use Rattle.plain_kernel.proofs.Linked.{nothing_at}

pub none_held : (h : Holders) → h.each ≡ empty → h.reading ≡ empty → h.writing ≡ empty → (s : Sought) → held_at h s ≡ 0
none_held h each reading writing (One d) = nothing_at h.each d each
none_held h each reading writing (End true p) = nothing_at h.writing p writing
none_held h each reading writing (End false p) = nothing_at h.reading p reading

-- a holder came and went again, and the ends stay
pub held_again : (first after : Holders) (mid last : FinMap nat_cmp ℕ) (num : ℕ) → ((n : ℕ) → count_at mid n ≡ count_at first.each n + cond (num == n) 1 0)
    → ((s : Sought) → held_at after s ≡ held_at (record first { each = mid }) s) → ((n : ℕ) → count_at last n ≡ count_at after.each n - cond (num == n) 1 0)
    → (s : Sought) → held_at (record after { each = last }) s ≡ held_at first s
held_again first after mid last num more same less (One d) = omega (arith, more d, same (One d), less d)
held_again first after mid last num more same less (End true p) = same (End true p)
held_again first after mid last num more same less (End false p) = same (End false p)

module _ (t : ℕ → Bool) where
  one : ℕ → ℕ
  one e = cond (t e) 1 0

  once : (o : Option ℕ) → weight one o ≡ passing_once t o
  unfolding one
  once None = refl
  once (Some e) = refl

  pub none_passing : passing t (or_new None) ≡ 0
  none_passing = ap (λ (es : List (ℕ × ℕ)). count_by t (map (λ e. e.1) es)) (entries-empty nat_cmp)

  -- one descriptor of a process
  slot-set : (p : Process) (f d : ℕ) → passing t (with_slot f d p) + passing_once t (get p.table f) ≡ passing t p + cond (t d) 1 0
  unfolding one
  slot-set p f d = ap (λ w. passing t (with_slot f d p) + w) (sym (once (get p.table f))) ∙ sum-insert nat_cmp_total nat_cmp-IsAntisymmetric one p.table f d

  slot-gone : (p : Process) (f : ℕ) → passing t (without_slot f p) + passing_once t (get p.table f) ≡ passing t p
  unfolding one
  slot-gone p f =
      let parts : weight one (get p.table f) + passing t (without_slot f p) ≡ passing t p = sum-remove nat_cmp_total nat_cmp-IsAntisymmetric one p.table f in
      let same : weight one (get p.table f) ≡ passing_once t (get p.table f) = once (get p.table f) in
      omega arith

  weighs : (o : Option Process) → weight (passing t) o ≡ passing t (or_new o)
  weighs None = sym none_passing
  weighs (Some p) = refl

  -- one process
  process-set : (m : FinMap nat_cmp Process) (k : ℕ) (p : Process) → passing_of_all t (insert m k p) + passing t (or_new (get m k)) ≡ passing_of_all t m + passing t p
  process-set m k p = ap (λ w. passing_of_all t (insert m k p) + w) (sym (weighs (get m k))) ∙ sum-insert nat_cmp_total nat_cmp-IsAntisymmetric (passing t) m k p

  process-gone : (m : FinMap nat_cmp Process) (k : ℕ) → passing_of_all t (remove m k) + passing t (or_new (get m k)) ≡ passing_of_all t m
  process-gone m k =
      let parts : weight (passing t) (get m k) + passing_of_all t (remove m k) ≡ passing_of_all t m = sum-remove nat_cmp_total nat_cmp-IsAntisymmetric (passing t) m k in
      let same : weight (passing t) (get m k) ≡ passing t (or_new (get m k)) = weighs (get m k) in
      omega arith

  no-process : passing_of_all t empty ≡ 0
  no-process = ap (λ (es : List (ℕ × Process)). sum_by (passing t) (map (λ e. e.1) es)) (entries-empty nat_cmp)

  bare : (ps : List ℕ) (i : ℕ) (m : FinMap nat_cmp Process) → passing_of_all t m ≡ 0 → passing_of_all t (with_processes i ps m) ≡ 0
  bare [] i m is = is
  bare (p ∷ ps) i m is = bare ps (suc i) _ (let new : Process = record { table = empty; priority = p } in let nothing : passing t new ≡ 0 = none_passing in omega (arith, process-set m (suc i) new, is, nothing))

-- the counts go with the processes: `c` is of those before, `d` of those after
module _ (ds : FinMap nat_cmp Description) (m : FinMap nat_cmp Process) (c d : Holders) (counted : AreHoldersOf ds m c) where
  module _ (k f : ℕ) where
    pub held_set : (mid : Holders) (num : ℕ) → ((s : Sought) → held_at mid s ≡ held_at c s + cond (is_sought ds s num) 1 0)
        → ((s : Sought) → held_at d s ≡ held_at mid s - passing_once (is_sought ds s) (get (or_new (get m k)).table f)) → AreHoldersOf ds (insert m k (with_slot f num (or_new (get m k)))) d
    held_set mid num more less = λ s.
        omega (arith, counted s, more s, less s, process-set (is_sought ds s) m k (with_slot f num (or_new (get m k))), slot-set (is_sought ds s) (or_new (get m k)) f num)

    pub held_cleared : ((s : Sought) → held_at d s ≡ held_at c s - passing_once (is_sought ds s) (get (or_new (get m k)).table f)) → AreHoldersOf ds (insert m k (without_slot f (or_new (get m k)))) d
    held_cleared less = λ s. omega (arith, counted s, less s, process-set (is_sought ds s) m k (without_slot f (or_new (get m k))), slot-gone (is_sought ds s) (or_new (get m k)) f)

  pub held_copied : (mid : Holders) (child parent : ℕ) → ((s : Sought) → held_at mid s ≡ held_at c s + passing (is_sought ds s) (or_new (get m parent)))
      → ((s : Sought) → held_at d s ≡ held_at mid s - passing (is_sought ds s) (or_new (get m child))) → AreHoldersOf ds (insert m child (or_new (get m parent))) d
  held_copied mid child parent more less = λ s. omega (arith, counted s, more s, less s, process-set (is_sought ds s) m child (or_new (get m parent)))

  pub held_gone : (k : ℕ) → ((s : Sought) → held_at d s ≡ held_at c s - passing (is_sought ds s) (or_new (get m k))) → AreHoldersOf ds (remove m k) d
  held_gone k less = λ s. omega (arith, counted s, less s, process-gone (is_sought ds s) m k)

  -- what came went again
  pub held_back : (mid : Holders) (x : Sought → ℕ) → ((s : Sought) → held_at mid s ≡ held_at c s + x s) → ((s : Sought) → held_at d s ≡ held_at mid s - x s) → AreHoldersOf ds m d
  held_back mid x more less = λ s. omega (arith, counted s, more s, less s)

pub held_with : (ds ds′ : FinMap nat_cmp Description) (m m′ : FinMap nat_cmp Process) (c : Holders) → ds′ ≡ ds → m′ ≡ m → AreHoldersOf ds m c → AreHoldersOf ds′ m′ c
held_with ds ds′ m m′ c e f counted = λ s. counted s ∙ ap (passing_of_all (is_sought ds s)) (sym f) ∙ ap (λ x. passing_of_all (is_sought x s) m′) (sym e)

pub none_hold : (ds : FinMap nat_cmp Description) (ps : List ℕ) (m : FinMap nat_cmp Process) (h : Holders) → m ≡ with_processes 0 ps empty → ((s : Sought) → held_at h s ≡ 0) → AreHoldersOf ds m h
none_hold ds ps m h first nothing = λ s. nothing s ∙ sym (ap (passing_of_all (is_sought ds s)) first ∙ bare (is_sought ds s) ps 0 empty (no-process (is_sought ds s)))

-- tests that differ for one description alone
zero : (b : Bool) → ◌≡◌ {A = ℕ} (cond b 0 0) 0
zero true = refl
zero false = refl

split : (b : Bool) (x y : ℕ) → cond b (x + y) 0 ≡ cond b x 0 + cond b y 0
split true x y = refl
split false x y = refl

summed : {X : Type 0} (a b c : X → ℕ) (p q : Bool) → ((x : X) → a x + cond p (c x) 0 ≡ b x + cond q (c x) 0) → (xs : List X) → sum_by a xs + cond p (sum_by c xs) 0 ≡ sum_by b xs + cond q (sum_by c xs) 0
summed a b c p q h [] = omega (arith, zero p, zero q)
summed a b c p q h (x ∷ xs) =
    let first : cond p (sum_by c (x ∷ xs)) 0 ≡ cond p (c x) 0 + cond p (sum_by c xs) 0 = ap (λ n. cond p n 0) (sum_by-cons c x xs) ∙ split p (c x) (sum_by c xs) in
    let second : cond q (sum_by c (x ∷ xs)) 0 ≡ cond q (c x) 0 + cond q (sum_by c xs) 0 = ap (λ n. cond q n 0) (sum_by-cons c x xs) ∙ split q (c x) (sum_by c xs) in
    omega (arith, h x, summed a b c p q h xs, sum_by-cons a x xs, sum_by-cons b x xs, first, second)

module _ (t u : ℕ → Bool) (k : ℕ) (same : (e : ℕ) → (e == k) ≡ false → u e ≡ t e) where
  at_one : (e : ℕ) → cond (u e) 1 0 + cond (t k) (cond (e == k) 1 0) 0 ≡ cond (t e) 1 0 + cond (u k) (cond (e == k) 1 0) 0
  at_one e = by (e == k) refl where
    by : (b : Bool) → (e == k) ≡ b → cond (u e) 1 0 + cond (t k) (cond b 1 0) 0 ≡ cond (t e) 1 0 + cond (u k) (cond b 1 0) 0
    by true is =
        let now : ◌≡◌ {A = ℕ} (cond (u e) 1 0) (cond (u k) 1 0) = ap (λ x. cond (u x) 1 0) (eqb-true e k is) in
        let was : ◌≡◌ {A = ℕ} (cond (t e) 1 0) (cond (t k) 1 0) = ap (λ x. cond (t x) 1 0) (eqb-true e k is) in
        omega arith
    by false is =
        let both : ◌≡◌ {A = ℕ} (cond (u e) 1 0) (cond (t e) 1 0) = ap (λ b. cond b 1 0) (same e is) in
        omega (arith, zero (t k), zero (u k))

  turned : (m : FinMap nat_cmp Process) → passing_of_all u m + cond (t k) (passing_of_all (λ e. e == k) m) 0 ≡ passing_of_all t m + cond (u k) (passing_of_all (λ e. e == k) m) 0
  turned m = summed (passing u) (passing t) (passing (λ e. e == k)) (t k) (u k)
      (λ process. summed (λ e. cond (u e) 1 0) (λ e. cond (t e) 1 0) (λ e. cond (e == k) 1 0) (t k) (u k) at_one (values process.table)) (values m)

-- the counts go with the descriptions
module _ (ds : FinMap nat_cmp Description) (m : FinMap nat_cmp Process) (c d : Holders) (counted : AreHoldersOf ds m c) (k h : ℕ) (held : h ≡ passing_of_all (λ e. e == k) m) where
  by_end : (writing : Bool) (p : ℕ) (new : FinMap nat_cmp Description) (o : Option Description) → get new k ≡ o → ((e : ℕ) → (e == k) ≡ false → get new e ≡ get ds e)
      → held_at d (End writing p) ≡ held_at c (End writing p) + ends_by h o (End writing p) - ends_by h (get ds k) (End writing p)
      → held_at d (End writing p) ≡ passing_of_all (is_sought new (End writing p)) m
  by_end writing p new o is other now =
      let t : ℕ → Bool = is_sought ds (End writing p) in
      let u : ℕ → Bool = is_sought new (End writing p) in
      let turn : passing_of_all u m + cond (t k) (passing_of_all (λ e. e == k) m) 0 ≡ passing_of_all t m + cond (u k) (passing_of_all (λ e. e == k) m) 0
      = turned t u k (λ e apart. ap (is_end (is_open writing) p) (other e apart)) m in
      let gone : ends_by h (get ds k) (End writing p) ≡ cond (t k) (passing_of_all (λ e. e == k) m) 0 = ap (λ n. cond (t k) n 0) held in
      let came : ends_by h o (End writing p) ≡ cond (u k) (passing_of_all (λ e. e == k) m) 0 = ap (λ n. cond (is_end (is_open writing) p o) n 0) held ∙ ap (λ x. cond (is_end (is_open writing) p x) (passing_of_all (λ e. e == k) m) 0) (sym is) in
      omega (arith, counted (End writing p), now, turn, gone, came)

  pub held_turned : (new : FinMap nat_cmp Description) (o : Option Description) → get new k ≡ o → ((e : ℕ) → (e == k) ≡ false → get new e ≡ get ds e)
      → ((s : Sought) → held_at d s ≡ held_at c s + ends_by h o s - ends_by h (get ds k) s) → AreHoldersOf new m d
  held_turned new o is other now (One e) = omega (arith, now (One e), counted (One e))
  held_turned new o is other now (End writing p) = by_end writing p new o is other (now (End writing p))

  -- a description comes, perhaps in the place of another
  pub held_described : (mid : Holders) (new : FinMap nat_cmp Description) (v : Description) → new ≡ insert ds k v → ((s : Sought) → held_at mid s ≡ held_at c s + ends_by h (Some v) s)
      → ((s : Sought) → held_at d s ≡ held_at mid s - ends_by h (get ds k) s) → AreHoldersOf new m d
  held_described mid new v is more less =
      held_turned new (Some v) (at_set ds new k k v refl is k ∙ ap (λ b. if b then Some v else get ds k) (eq-eqb k k refl)) (λ e apart. at_set ds new k k v refl is e ∙ ap (λ b. if b then Some v else get ds e) apart)
      (λ s. less s ∙ ap (λ n. n - ends_by h (get ds k) s) (more s))

  nothing_ends : (s : Sought) → ends_by h None s ≡ 0
  nothing_ends (One e) = refl
  nothing_ends (End writing p) = refl

  -- a description goes
  pub held_cleared_of : (new : FinMap nat_cmp Description) → new ≡ remove ds k → ((s : Sought) → held_at d s ≡ held_at c s - ends_by h (get ds k) s) → AreHoldersOf new m d
  held_cleared_of new is less =
      held_turned new None (gone ds new k k refl is) (λ e apart. at_removed ds new k k refl is e ∙ ap (λ b. if b then None else get ds e) apart)
      (λ s. let nothing : ends_by h None s ≡ 0 = nothing_ends s in omega (arith, less s))

-- another offset leaves the ends
same_ends : (h place : ℕ) (old : Description) (s : Sought) → ends_by h (Some (at_offset place old)) s ≡ ends_by h (Some old) s
same_ends h place old (One e) = refl
same_ends h place old (End true p) = refl
same_ends h place old (End false p) = refl

pub held_moved : (ds new : FinMap nat_cmp Description) (m : FinMap nat_cmp Process) (c : Holders) → AreHoldersOf ds m c → (k place : ℕ)
    → MatchOption (get ds k) (new ≡ ds) (λ old. new ≡ insert ds k (at_offset place old)) → AreHoldersOf new m c
held_moved ds new m c counted k place = by (get ds k) refl where
  by : (o : Option Description) → get ds k ≡ o → MatchOption o (new ≡ ds) (λ old. new ≡ insert ds k (at_offset place old)) → AreHoldersOf new m c
  by None e is = held_with ds new m m c is refl counted
  by (Some old) e is =
      let h : ℕ = passing_of_all (λ e. e == k) m in
      let new_one : Description = at_offset place old in
      held_turned ds m c c counted k h refl new (Some new_one) (at_set ds new k k new_one refl is k ∙ ap (λ b. if b then Some new_one else get ds k) (eq-eqb k k refl))
      (λ e apart. at_set ds new k k new_one refl is e ∙ ap (λ b. if b then Some new_one else get ds e) apart)
      (λ s. let same : ends_by h (Some new_one) s ≡ ends_by h (get ds k) s = same_ends h place old s ∙ ap (λ o. ends_by h o s) (sym e) in omega arith)

-- what the counts tell
pub held_told : (k : Kernel) (h : Holders) (d n : ℕ) → AreHoldersOf k.descriptions k.processes h → n ≡ count_at h.each d → nat_lt 0 n ≡ is_held k d
unfolding holders
held_told k h d n counted is = ap (nat_lt 0) (is ∙ counted (One d))

pub ends_told : (k : Kernel) (h : Holders) (p : ℕ) (writing : Bool) (n : ℕ) → AreHoldersOf k.descriptions k.processes h → n ≡ held_at h (End writing p) → n ≡ ends k p (is_open writing)
unfolding ends
ends_told k h p writing n counted is = is ∙ counted (End writing p)
