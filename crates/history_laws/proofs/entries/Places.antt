-- How many places are reserved after one right entry.
use Rattle.std.proofs.Common.{◌≡◌, ◌≢◌, ℕ, zero, suc, ◌+◌, ◌<◌, ◌≤◌, refl, sym, ◌∙◌, ap, subst, true, false, Bool, inl, inr, eqb, arith, cond}
use Rattle.std.specs.Prelude.{if◌then◌else◌}
use Rattle.std.proofs.lemmas.Bool.{cases_Bool, cases_eq, cases_lt, both_ways, false≢true, eq-eqb, ne_eqb}
use Rattle.model.specs.State.{Kernel}
use Rattle.model.specs.Entries.{Cause, NoProcess, Entry}
use Rattle.model.specs.Forgetting.{Limit, limit_at}
use Rattle.model.specs.Moments.{Status, gone, idle, live, doomed, Moment, status, is_alive, bound, own_next, doom, doom_cause, dooming_touches, is_in, next, holds_place, reserved, count_below}
use Rattle.model.specs.Legal.{Replied, RightAt, Right}
use Rattle.call_laws.specs.CallLaws.{CallLaws}
use Rattle.history_laws.proofs.Forgetting.{limit_rises}
use Rattle.history_laws.proofs.lists.UntidiedRuns.{others_alive}
use Rattle.history_laws.proofs.lists.LiveLists.{tidied_alive}
use Rattle.history_laws.proofs.entries.Moments.{Sound, phase_own}
use Rattle.history_laws.proofs.entries.Soundness.{commits_or_not}

abbrev pub one : Bool → ℕ
one b = if b then 1 else 0

-- a count changes by what it changes at one number
pub count_beyond : (f g : ℕ → Bool) (p n : ℕ) → ((q : ℕ) → q ≢ p → g q ≡ f q) → n ≤ p → count_below g n ≡ count_below f n
count_beyond f g p zero same h = refl
count_beyond f g p (suc n) same h =
    let here : g n ≡ f n = same n (let lt : n < p = omega arith in λ e. absurd (omega arith)) in
    let rest : count_below g n ≡ count_below f n = count_beyond f g p n same (omega arith) in
    ap (λ b. one b + count_below g n) here ∙ ap (λ c. one (f n) + c) rest

pub count_changed : (f g : ℕ → Bool) (p n : ℕ) → ((q : ℕ) → q ≢ p → g q ≡ f q) → p < n → count_below g n + one (f p) ≡ count_below f n + one (g p)
count_changed f g p zero same h = absurd (omega arith)
count_changed f g p (suc n) same h = elim (cases_eq n p) [
  | inl e ↦
      let rest : count_below g n ≡ count_below f n = count_beyond f g p n same (omega arith) in
      let a : one (f p) ≡ one (f n) = ap (λ x. one (f x)) (sym e) in
      let b : one (g p) ≡ one (g n) = ap (λ x. one (g x)) (sym e) in
      omega arith
  | inr ne ↦
      let rest : count_below g n + one (f p) ≡ count_below f n + one (g p) = count_changed f g p n same (omega arith) in
      let here : one (g n) ≡ one (f n) = ap one (same n ne) in
      omega arith
]

-- a larger bound counts no more where none is above the smaller
pub count_limit : (g : ℕ → Bool) (b n : ℕ) → ((q : ℕ) → b ≤ q → g q ≡ false) → count_below g n ≤ count_below g b
count_limit g b zero none = omega arith
count_limit g b (suc n) none = elim (cases_lt n b) [
  | inl below ↦ count_rises g (suc n) b (omega arith)
  | inr above ↦
      let rest : count_below g n ≤ count_below g b = count_limit g b n none in
      let here : one (g n) ≡ 0 = ap one (none n above) in
      omega arith
] where
  count_rises : (g : ℕ → Bool) (n b : ℕ) → n ≤ b → count_below g n ≤ count_below g b
  count_rises g n zero h = (let none : n ≡ 0 = omega arith in subst (λ x. count_below g x ≤ 0) (sym none) (omega arith))
  count_rises g n (suc b) h = elim (cases_lt n (suc b)) [
    | inl below ↦ (let rest : count_below g n ≤ count_below g b = count_rises g n b (omega arith) in omega arith)
    | inr above ↦ (let same : n ≡ suc b = omega arith in subst (λ x. count_below g x ≤ count_below g (suc b)) (sym same) (omega arith))
  ]

pub holds_doom : (s : Status) (c : Cause) → holds_place (doom s c) ≡ holds_place s
holds_doom (live flags age es) c = refl
holds_doom idle c = refl
holds_doom gone c = refl
holds_doom (doomed first flags age) c = refl

-- Those that are no process are idle, and each transaction has its place.
pub record Steady (Well : Kernel → Type 0) (limit : Limit) (m : Moment) : Type 0 where
  pub sound : Sound Well m
  pub beyond : (q : ℕ) → is_alive m.committed q ≡ false → m.phase q ≡ idle
  pub placed : m.entries + reserved m ≤ limit_at limit m.entries

gone_is : (m : Moment) (q : ℕ) → is_alive m.committed q ≡ false → status m q ≡ gone
gone_is m q h = ap (λ b. if b then m.phase q else gone) h

module _ (limit : Limit) (m : Moment) (e : Entry) where
  abbrev own : Status
  own = own_next (m.entries + 1) (m.phase e.pid) e.op e.reply e.chosen

  -- dooming changes no places
  holds_next : (q : ℕ) → holds_place ((next m e).phase q) ≡ holds_place (cond (eqb q e.pid) (own_next (m.entries + 1) (m.phase q) e.op e.reply e.chosen) (m.phase q))
  holds_next q = at_test (is_in q e.doomed) where
    at_test : (b : Bool) → holds_place (cond b (doom (cond (eqb q e.pid) (own_next (m.entries + 1) (m.phase q) e.op e.reply e.chosen) (m.phase q)) (doom_cause m e.pid (dooming_touches m e.pid e.op) q)) (cond (eqb q e.pid) (own_next (m.entries + 1) (m.phase q) e.op e.reply e.chosen) (m.phase q))) ≡ holds_place (cond (eqb q e.pid) (own_next (m.entries + 1) (m.phase q) e.op e.reply e.chosen) (m.phase q))
    at_test true = holds_doom _ _
    at_test false = refl

  pub other_places : (q : ℕ) → q ≢ e.pid → holds_place ((next m e).phase q) ≡ holds_place (m.phase q)
  other_places q ne = holds_next q ∙ ap (λ b. holds_place (cond b (own_next (m.entries + 1) (m.phase q) e.op e.reply e.chosen) (m.phase q))) (ne_eqb q e.pid ne)

  own_place : holds_place ((next m e).phase e.pid) ≡ holds_place own
  own_place = holds_next e.pid ∙ ap (λ b. holds_place (cond b own (m.phase e.pid))) (eq-eqb e.pid e.pid refl)

  -- one that was no process before is idle after
  pub idle_stays : Right limit m e → ((q : ℕ) → is_alive m.committed q ≡ false → m.phase q ≡ idle) → (q : ℕ) → is_alive m.committed q ≡ false → (next m e).phase q ≡ idle
  idle_stays right beyond q dead = elim (cases_eq q e.pid) [
    | inl same ↦ ap (next m e).phase same ∙ itself (ap (is_alive m.committed) (sym same) ∙ dead)
    | inr ne ↦ at_doom (is_in q e.doomed) (eqb q e.pid) (ne_eqb q e.pid ne)
  ] where
    itself : is_alive m.committed e.pid ≡ false → (next m e).phase e.pid ≡ idle
    itself dead = (let r : Replied limit m e NoProcess 1 = subst (λ s. RightAt limit m e s e.op) (gone_is m e.pid dead) right in
        phase_own m e (ap (is_in e.pid) r.1.doomed) ∙ ap (λ x. own_next (m.entries + 1) (m.phase e.pid) e.op x e.chosen) r.0 ∙ beyond e.pid dead)

    at_doom : (b a : Bool) → a ≡ false → cond b (doom (cond a (own_next (m.entries + 1) (m.phase q) e.op e.reply e.chosen) (m.phase q)) (doom_cause m e.pid (dooming_touches m e.pid e.op) q)) (cond a (own_next (m.entries + 1) (m.phase q) e.op e.reply e.chosen) (m.phase q)) ≡ idle
    at_doom b true f = absurd (false≢true (sym f))
    at_doom true false f = ap (λ s. doom s (doom_cause m e.pid (dooming_touches m e.pid e.op) q)) (beyond q dead)
    at_doom false false f = beyond q dead

module _ (Well : Kernel → Type 0) (laws : CallLaws Well) (limit : Limit) (m : Moment) (e : Entry) (right : Right limit m e) (s : Steady Well limit m) where
  pub dead_stays : (q : ℕ) → is_alive m.committed q ≡ false → (next m e).phase q ≡ idle
  dead_stays = idle_stays limit m e right s.beyond

  pub beyond_next : (q : ℕ) → is_alive (next m e).committed q ≡ false → (next m e).phase q ≡ idle
  beyond_next q dead = elim (cases_Bool (is_alive m.committed q)) [
    | inr before ↦ dead_stays q before
    | inl alive ↦ elim (commits_or_not Well laws limit m e right s.sound) [
      | inl same ↦ absurd (both_ways (is_alive m.committed q) (ap (λ k. is_alive k q) (sym same) ∙ dead) alive)
      | inr c ↦ elim (cases_eq q e.pid) [
        | inl same ↦ ap (next m e).phase same ∙ c.idle_then
        | inr ne ↦ absurd (both_ways (is_alive (next m e).committed q) dead (ap (λ k. is_alive k q) c.next_state ∙ tidied_alive _ q (others_alive Well laws e.pid m.committed c.calls q ne alive c.goes)))
      ]
    ]
  ]

  -- the count after the entry, over the processes before it
  counted_next : e.pid < bound m → count_below (λ q. holds_place ((next m e).phase q)) (bound m) + one (holds_place (m.phase e.pid)) ≡ reserved m + one (holds_place (own limit m e))
  counted_next below = count_changed (λ q. holds_place (m.phase q)) (λ q. holds_place ((next m e).phase q)) e.pid (bound m) (other_places limit m e) below ∙ ap (λ b. reserved m + one b) (own_place limit m e)

  pub above_dead : (q : ℕ) → bound m ≤ q → is_alive m.committed q ≡ false
  above_dead q above = elim (cases_Bool (is_alive m.committed q)) [
    | inr dead ↦ dead
    | inl alive ↦ (let low : q ≤ m.committed.made = laws.alive_counted m.committed s.sound.lists.well q alive in absurd (omega arith))
  ]

  pub few : reserved (next m e) ≤ count_below (λ q. holds_place ((next m e).phase q)) (bound m)
  few = count_limit (λ q. holds_place ((next m e).phase q)) (bound m) (bound (next m e)) (λ q above. ap holds_place (dead_stays q (above_dead q above)))

  -- the place that an entry takes is one of the free ones, or the one that was reserved
  pub placed_by : m.entries + reserved m + 1 + one (holds_place (own limit m e)) ≤ limit_at limit m.entries + one (holds_place (m.phase e.pid)) → (m.entries + 1) + reserved (next m e) ≤ limit_at limit (m.entries + 1)
  placed_by room = elim (cases_lt e.pid (bound m)) [
    | inl below ↦ (let up = limit_rises limit m.entries in let moved : count_below (λ q. holds_place ((next m e).phase q)) (bound m) + one (holds_place (m.phase e.pid)) ≡ reserved m + one (holds_place (own limit m e)) = counted_next below in omega (arith, few, up))
    | inr above ↦
        let up = limit_rises limit m.entries in
        let same : count_below (λ q. holds_place ((next m e).phase q)) (bound m) ≡ reserved m = count_beyond (λ q. holds_place (m.phase q)) (λ q. holds_place ((next m e).phase q)) e.pid (bound m) (other_places limit m e) above in
        let none : one (holds_place (m.phase e.pid)) ≡ 0 = ap (λ x. one (holds_place x)) (s.beyond e.pid (above_dead e.pid above)) in
        omega (arith, few, up)
  ]
