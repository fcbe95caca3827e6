-- What an operation needs of the history, and what it is answered where its memory is refused.
use Rattle.std.proofs.Common.{◌≡◌, ◌≢◌, ℕ, suc, ◌+◌, ◌-◌, ◌≤◌, ◌<◌, Bool, true, false, length, refl, sym, ap, ap₂, ◌∙◌, subst, inl, inr, arith, leb-true, leb-false, le-leb, add-one, sum, true≢false}
use Rattle.std.specs.Prelude.{if◌then◌else◌, nat_le}
use Rattle.std.proofs.lemmas.Bool.{cases_Bool, lt-leb}
use Rattle.std.proofs.lemmas.List.{length-drop}
use Rattle.history.specs.Log.{Log, kept}
use Rattle.model.specs.Entries.{Op, Do, Begin, End, Abort, Reply, HistoryFull, NoMemory}
use Rattle.model.specs.Forgetting.{limit_at}
use Rattle.model.specs.Moments.{Status, gone, idle, live, doomed, Moment, status, is_alive, count_below, has_free, holds_place, reserved}
use Rattle.model.specs.Replies.{needed}
use Rattle.model.specs.State.{Kernel}
use Rattle.history_laws.proofs.Laws.{forgetting_is_legal, legality_follows, limits_are_kept}
use Rattle.machine.specs.Shown.{Shown, Kept, limit_of, moment, setup_of}
use Rattle.machine.specs.Steps.{is_no_entry, IsStep}
use Rattle.redo_records.specs.Kept.{standing_of}
use Rattle.redo_records.specs.declared.recorder.Standing.{Standing}
use Rattle.redo_records.specs.declared.recorder.Standing.TheVariants.{Idle, Lives, IsDoomed}
use Rattle.recording.specs.Noted.{needed_by, places_of, refusal}

needed_alive : (s : Status) (op : Op) → s ≢ gone → needed_by (standing_of s) op ≡ needed s op
needed_alive gone op there = absurd (there refl)
needed_alive idle (Do call) there = refl
needed_alive idle (Begin new) there = refl
needed_alive idle End there = refl
needed_alive idle (Abort no_restart) there = refl
needed_alive (live flags age calls) (Do call) there = refl
needed_alive (live flags age calls) (Begin new) there = refl
needed_alive (live flags age calls) End there = refl
needed_alive (live flags age calls) (Abort no_restart) there = refl
needed_alive (doomed cause flags age) op there = refl

-- of a living process
pub needed_is : (m : Moment) (pid : ℕ) (op : Op) → m.phase pid ≢ gone → is_alive m.committed pid ≡ true → needed_by (standing_of (m.phase pid)) op ≡ needed (status m pid) op
needed_is m pid op there alive = needed_alive (m.phase pid) op there ∙ ap (λ b. needed (if b then m.phase pid else gone) op) (sym alive)

-- of one that was never made or has ended
pub needed_gone : (m : Moment) (pid : ℕ) (op : Op) → is_alive m.committed pid ≡ false → 1 ≡ needed (status m pid) op
needed_gone m pid op dead = ap (λ b. needed (if b then m.phase pid else gone) op) (sym dead)

-- ---- how many places transactions hold

place_is : (s : Status) → places_of (standing_of s) ≡ (if holds_place s then 1 else 0)
place_is gone = refl
place_is idle = refl
place_is (live flags age calls) = refl
place_is (doomed cause flags age) = refl

pub low_place : (s : Standing) → places_of s ≤ 1
low_place Idle = omega arith
low_place Lives = omega arith
low_place IsDoomed = omega arith

-- how many of the processes below n hold one
abbrev pub held_below : Moment → ℕ → ℕ
held_below m n = count_below (λ q. holds_place (m.phase q)) n

pub one_more : (m : Moment) (n held : ℕ) (s : Standing) → held ≡ held_below m n → s ≡ standing_of (m.phase n) → held + places_of s ≡ held_below m (n + 1)
one_more m n held s count is =
    let place : places_of s ≡ (if holds_place (m.phase n) then 1 else 0) = ap places_of is ∙ place_is (m.phase n) in
    let more : held_below m (n + 1) ≡ (if holds_place (m.phase n) then 1 else 0) + held_below m n = ap (held_below m) (add-one n) in
    omega (arith, place, count, more)

pub few_are_made : (v : Shown) → Kept v → length v.log.priorities ≤ 4096 → v.state.made ≤ 4096
few_are_made v holds few =
    let within = (limits_are_kept 0 (setup_of v.log) (limit_of v.log) v.log.entries holds.legal few).committed.made in
    subst (λ (k : Kernel). k.made ≤ 4096) (sym holds.state) within

pub all_held : (v : Shown) → Kept v → (above : ℕ) → above ≡ v.state.made + 1 → held_below (moment v.log) above ≡ reserved (moment v.log)
all_held v holds above is = ap (held_below (moment v.log)) (is ∙ add-one v.state.made ∙ ap (λ k. suc k.made) holds.state)

-- ---- what is free

-- a comparison is the same where both sides have as much more
le_shift : (a b more : ℕ) → nat_le (a + more) (b + more) ≡ nat_le a b
le_shift a b more = elim (cases_Bool (nat_le a b)) [
  | inl is ↦ (let low : a ≤ b = leb-true a b is in le-leb (a + more) (b + more) (omega arith) ∙ sym is)
  | inr not ↦ (let high : b < a = leb-false a b not in lt-leb (a + more) (b + more) (omega arith) ∙ sym not)
]

free_is : (log : Log) (n : ℕ) → sum log.forgotten ≤ length log.entries → has_free (limit_of log) (moment log) n ≡ nat_le (length (kept log) + reserved (moment log) + n) log.limit
free_is log n forgot =
    let held : ℕ = reserved (moment log) in
    let gone : ℕ = sum log.forgotten in
    let limit : limit_at (limit_of log) (length log.entries) ≡ log.limit + gone = forgetting_is_legal.all (limit_of log) (length log.entries) forgot in
    let left : length (kept log) ≡ length log.entries - gone = length-drop gone log.entries in
    let all : length log.entries + held + n ≡ (length (kept log) + held + n) + gone = omega (arith, left, forgot) in
    ap (λ a. nat_le (a + held + n) (limit_at (limit_of log) a)) (legality_follows.entries 0 (setup_of log) log.entries)
    ∙ ap₂ nat_le all limit
    ∙ le_shift (length (kept log) + held + n) log.limit gone

pub none_free : (log : Log) (n left held : ℕ) → sum log.forgotten ≤ length log.entries → n ≢ 0 → left ≡ log.limit - length (kept log) → held ≡ reserved (moment log) → left - held < n → HistoryFull ≡ refusal log n
none_free log n left held forgot some is holds low =
    let full : nat_le (length (kept log) + reserved (moment log) + n) log.limit ≡ false = lt-leb _ _ (omega (arith, some, is, holds, low)) in
    ap (λ b. if b then NoMemory else HistoryFull) (sym (free_is log n forgot ∙ full))

pub some_free : (log : Log) (n left held : ℕ) → sum log.forgotten ≤ length log.entries → n ≢ 0 → left ≡ log.limit - length (kept log) → held ≡ reserved (moment log) → n ≤ left - held → NoMemory ≡ refusal log n
some_free log n left held forgot some is holds enough =
    let free : nat_le (length (kept log) + reserved (moment log) + n) log.limit ≡ true = le-leb _ _ (omega (arith, some, is, holds, enough)) in
    ap (λ b. if b then NoMemory else HistoryFull) (sym (free_is log n forgot ∙ free))

-- ---- an operation that is refused memory before the step

refused_by : (v : Shown) (pid : ℕ) (op : Op) → needed (status (moment v.log) pid) op ≢ 0 → (b : Bool) → has_free (limit_of v.log) (moment v.log) (needed (status (moment v.log) pid) op) ≡ b
    → IsStep v v pid op (if b then NoMemory else HistoryFull)
refused_by v pid op some true is = record {
  entry = refl;
  full = ((λ e. absurd cc), λ none. absurd (true≢false (sym is ∙ none)));
  memory = λ none same. absurd (some none);
}
refused_by v pid op some false is = record {
  entry = refl;
  full = ((λ e. is), λ none. refl);
  memory = λ none same. absurd cc;
}

pub refused_step : (v : Shown) (pid n : ℕ) (op : Op) (reply : Reply) → n ≡ needed (status (moment v.log) pid) op → n ≢ 0 → reply ≡ refusal v.log n → IsStep v v pid op reply
refused_step v pid n op reply is some said =
    let all : IsStep v v pid op (refusal v.log (needed (status (moment v.log) pid) op)) = refused_by v pid op (subst (λ (k : ℕ). k ≢ 0) is some) _ refl in
    subst (IsStep v v pid op) (ap (refusal v.log) (sym is) ∙ sym said) all

pub refused_is : (log : Log) (n : ℕ) (reply : Reply) → reply ≡ refusal log n → is_no_entry reply ≡ true
refused_is log n reply said = by (has_free (limit_of log) (moment log) n) said where
  by : (b : Bool) → reply ≡ (if b then NoMemory else HistoryFull) → is_no_entry reply ≡ true
  by true said = ap is_no_entry said
  by false said = ap is_no_entry said
