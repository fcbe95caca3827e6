-- Numbers that are nowhere, and with them the right entry of each operation.
use Rattle.std.proofs.Common.{◌≡◌, ◌≢◌, ℕ, zero, suc, ◌+◌, ◌<◌, ◌≤◌, List, [], ◌∷◌, length, Option, Some, None, refl, sym, ◌∙◌, ap, true, false, Bool, inl, inr, cond, arith}
use Rattle.std.specs.Prelude.{◌||◌}
use Rattle.std.specs.List.{AllByRecursion, sum_by}
use Rattle.std.specs.declared.cmp.Ordering.{Ordering}
use Rattle.std.specs.Ordering.{eq_by_cmp}
use Rattle.std.specs.FinMap.Entries.{find}
use Rattle.std.proofs.Common.{nat_cmp}
use Rattle.std.proofs.lemmas.Bool.{cases_lt, ne_eqb}
use Rattle.model.specs.FiniteMap.{FinMap, get, entries, get-entries, get-empty}
use Rattle.model.specs.State.{Name, name_cmp, Kernel, Inode, Process, names_of, names_of_inode}
use Rattle.model.specs.Plan.{rising}
use Rattle.model.specs.Changes.{news, process_of, or_new}
use Rattle.model.specs.Calls.{Call}
use Rattle.model.specs.Steps.{edits, IsNowhere, AllDifferent}
use Rattle.model.specs.Entries.{BeginFlags, Op, Do, Begin, End, Abort, Cause, Entry, is_inside}
use Rattle.model.specs.Forgetting.{Limit, limit_at}
use Rattle.model.specs.Moments.{Status, gone, idle, live, doomed, Moment, status, numbers, calls_of, calls_at, seen_by, counted_touches, is_in, bound, losing_cause}
use Rattle.model.specs.Legal.{Free, IsApart, Taken, Outcome, Inside, RightAt}
use Rattle.model.specs.Replies.{Spoken, outcome_for, inside_for, spoken_at, needed}
use Rattle.model.proofs.Laws.{apart}
use Rattle.history_laws.specs.Choices.{HasRightEntry}
use Rattle.history_laws.proofs.calls.Outcomes.{executed_again}

abbrev value_or : {X : Type 0} → X → Option X → X
value_or x (Some y) = y
value_or x None = x

-- a number above all keys of a map
abbrev above_keys : {X : Type 0} → List (ℕ × X) → ℕ
above_keys [] = 0
above_keys (e ∷ es) = suc (e.0 + above_keys es)

not_found : {X : Type 0} (es : List (ℕ × X)) (n : ℕ) → above_keys es ≤ n → find nat_cmp n es ≡ None
not_found [] n h = refl
not_found (e ∷ es) n h =
    let ne : n ≢ e.0 = (λ same. let f : n ≡ e.0 = same in absurd (omega arith)) in
    ap (λ b. cond b (Some e.1) (find nat_cmp n es)) (apart n e.0 ne) ∙ not_found es n (omega arith)

-- what weighs each value weighs the values found
abbrev weights : {K X : Type 0} → (X → ℕ) → List (K × X) → ℕ
weights w [] = 0
weights w (e ∷ es) = w e.1 + weights w es

found_weighs : {K X : Type 0} (R : K → K → Ordering) (w : X → ℕ) (es : List (K × X)) (q : K) (x : X) → find R q es ≡ Some x → w x ≤ weights w es
found_weighs R w [] q x h = absurd cc
found_weighs {X = X} R w (e ∷ es) q x h = by (eq_by_cmp R q e.0) h (found_weighs R w es q x) where
  by : (b : Bool) → cond b (Some e.1) (find R q es) ≡ Some x → (find R q es ≡ Some x → w x ≤ weights w es) → w x ≤ w e.1 + weights w es
  by true h rest = (let same : w e.1 ≡ w x = ap (λ o. w (value_or x o)) h in omega arith)
  by false h rest = (let low : w x ≤ weights w es = rest h in omega arith)

-- a number above all values of a map to numbers
abbrev above_values : {K : Type 0} {R : K → K → Ordering} → FinMap R ℕ → ℕ
above_values m = weights suc (entries m)

value_below : {K : Type 0} {R : K → K → Ordering} (m : FinMap R ℕ) (q : K) (n : ℕ) → above_values m ≤ n → get m q ≢ Some n
value_below {R = R} m q n h gives = (let low : suc n ≤ weights suc (entries m) = found_weighs R suc (entries m) q n (sym (get-entries m q) ∙ gives) in absurd (omega arith))

abbrev above_names : Inode → ℕ
above_names inode = above_values (names_of_inode (Some inode))

abbrev above_table : Process → ℕ
above_table process = above_values process.table

-- a number above all that a state has
pub above : Kernel → ℕ
above k = (above_keys (entries k.inodes) + above_keys (entries k.rights) + above_keys (entries k.descriptions)) + (weights above_names (entries k.inodes) + weights above_table (entries k.processes))

nothing : {n : ℕ} → ◌≡◌ {A = Option ℕ} None (Some n) → ⊥
nothing e = absurd cc

unnamed_above : (k : Kernel) (n : ℕ) → weights above_names (entries k.inodes) ≤ n → (d : ℕ) (x : Name) → get (names_of k d) x ≢ Some n
unnamed_above k n h d x = by (get k.inodes d) refl where
  by : (o : Option Inode) → get k.inodes d ≡ o → get (names_of_inode o) x ≢ Some n
  by None is gives = nothing (sym (get-empty name_cmp x) ∙ gives)
  by (Some inode) is gives =
      let low : above_names inode ≤ weights above_names (entries k.inodes) = found_weighs nat_cmp above_names (entries k.inodes) d inode (sym (get-entries k.inodes d) ∙ is) in
      let enough : above_values (names_of_inode (Some inode)) ≤ n = omega arith in
      value_below (names_of_inode (Some inode)) x n enough gives

unheld_above : (k : Kernel) (n : ℕ) → weights above_table (entries k.processes) ≤ n → (pid f : ℕ) → get (process_of k pid).table f ≢ Some n
unheld_above k n h pid f = by (get k.processes pid) refl where
  by : (o : Option Process) → get k.processes pid ≡ o → get (or_new o).table f ≢ Some n
  by None is gives = nothing (sym (get-empty nat_cmp f) ∙ gives)
  by (Some process) is gives =
      let low : above_table process ≤ weights above_table (entries k.processes) = found_weighs nat_cmp above_table (entries k.processes) pid process (sym (get-entries k.processes pid) ∙ is) in
      let enough : above_values process.table ≤ n = omega arith in
      value_below process.table f n enough gives

pub above_nowhere : (k : Kernel) (n : ℕ) → above k ≤ n → IsNowhere k n
unfolding above
above_nowhere k n h = record {
  inode = get-entries k.inodes n ∙ not_found (entries k.inodes) n (omega arith);
  rights = get-entries k.rights n ∙ not_found (entries k.rights) n (omega arith);
  description = get-entries k.descriptions n ∙ not_found (entries k.descriptions) n (omega arith);
  unnamed = unnamed_above k n (omega arith);
  unheld = unheld_above k n (omega arith);
}

-- a number above those of a list
abbrev above_list : List ℕ → ℕ
above_list [] = 0
above_list (n ∷ ns) = suc (n + above_list ns)

out_above : (n : ℕ) (ns : List ℕ) → above_list ns ≤ n → is_in n ns ≡ false
out_above n [] h = refl
out_above n (m ∷ ns) h =
    let ne : n ≢ m = (λ same. let f : n ≡ m = same in absurd (omega arith)) in
    ap (λ b. b || is_in n ns) (ne_eqb n m ne) ∙ out_above n ns (omega arith)

-- a number above those of the lists of the first processes
abbrev above_lists : (ℕ → List ℕ) → ℕ → ℕ
above_lists lists zero = 0
above_lists lists (suc q) = above_list (lists q) + above_lists lists q

lists_above : (lists : ℕ → List ℕ) (b n q : ℕ) → above_lists lists b ≤ n → q < b → is_in n (lists q) ≡ false
lists_above lists zero n q h low = absurd (omega arith)
lists_above lists (suc b) n q h low = elim (cases_lt q b) [
  | inl below ↦ lists_above lists b n q (omega arith) below
  | inr above ↦ (let same : q ≡ b = omega arith in ap (λ i. is_in n (lists i)) same ∙ out_above n (lists b) (omega arith))
]

-- numbers from one on
length-rising : (first count : ℕ) → length (rising first count) ≡ count
length-rising first zero = refl
length-rising first (suc count) = (let rest : length (rising (suc first) count) ≡ count = length-rising (suc first) count in omega arith)

rising_from : (P : ℕ → Type 0) (first count : ℕ) → ((n : ℕ) → first ≤ n → P n) → AllByRecursion P (rising first count)
rising_from P first zero h = tt
rising_from P first (suc count) h = (h first (omega arith), rising_from P (suc first) count (λ n low. h n (omega arith)))

rising_different : (first count : ℕ) → AllDifferent (rising first count)
rising_different first zero = tt
rising_different first (suc count) = (rising_from (λ m. first ≢ m) (suc first) count (λ n low same. (let f : first ≡ n = same in absurd (omega arith))), rising_different (suc first) count)

-- Where processes that hold nothing have no calls, each operation with its places has a right entry.
module _ (limit : Limit) (m : Moment) (pid : ℕ) (beyond : (q : ℕ) → bound m ≤ q → m.phase q ≡ idle) where
  abbrev entry : Op → Spoken → List ℕ → Entry
  entry op said chosen = record { pid = pid; op = op; reply = said.reply; chosen = chosen; doomed = said.doomed }

  abbrev first_new : ℕ
  first_new = (above m.committed + above (seen_by m pid)) + above_lists (λ q. numbers (calls_at m q)) (bound m)

  abbrev new_numbers : Call → List ℕ
  new_numbers call = rising first_new (sum_by news (edits (seen_by m pid) pid call))

  in_no_list : (n q : ℕ) → first_new ≤ n → is_in n (numbers (calls_at m q)) ≡ false
  in_no_list n q h = elim (cases_lt q (bound m)) [
    | inl below ↦ lists_above (λ q. numbers (calls_at m q)) (bound m) n q (omega arith) below
    | inr above ↦ ap (λ s. is_in n (numbers (calls_of s))) (beyond q above)
  ]

  taken : (op : Op) (s : Status) (call : Call) → Taken m (entry op (outcome_for m pid s call None) (new_numbers call)) call
  taken op s call = record {
    answer = executed_again (seen_by m pid) pid call;
    chosen = record {
      count = length-rising first_new _;
      unused = rising_from (IsNowhere (seen_by m pid)) first_new _ (λ n h. above_nowhere (seen_by m pid) n (omega arith));
      different = rising_different first_new _;
    };
    apart = rising_from (IsApart m (entry op (outcome_for m pid s call None) (new_numbers call))) first_new _ (λ n h. record {
      committed = above_nowhere m.committed n (omega arith);
      lists = λ q free. in_no_list n q h;
    });
    doomed = refl;
  }

  by_cause : (op : Op) (s : Status) (call : Call) (o : Option Cause) → (chosen : List ℕ) × Outcome m (entry op (outcome_for m pid s call o) chosen) s call o
  by_cause op s call (Some c) = ([], (refl, record { chosen = refl; doomed = refl }))
  by_cause op s call None = (new_numbers call, taken op s call)

  inside : (op : Op) (s : Status) (flags : BeginFlags) (call : Call) (b : Bool) → m.entries + Rattle.model.specs.Moments.reserved m + 1 ≤ limit_at limit m.entries → (chosen : List ℕ) × Inside limit m (entry op (inside_for m pid s flags call b) chosen) s flags call b
  inside op s flags call true free = (let out = by_cause op s call (losing_cause m pid (counted_touches m pid call)) in (out.0, (out.1, free)))
  inside op s flags call false free = ([], (refl, record { chosen = refl; doomed = refl }, free))

  by_status : (s : Status) (op : Op) → Free limit m (needed s op) → (chosen : List ℕ) × RightAt limit m (entry op (spoken_at limit m pid s op) chosen) s op
  by_status (doomed c flags age) op free = ([], (refl, record { chosen = refl; doomed = refl }))
  by_status (live flags age es) End free = ([], (refl, record { chosen = refl; doomed = refl }))
  by_status (live flags age es) (Abort no_restart) free = ([], (refl, record { chosen = refl; doomed = refl }))
  by_status gone op free = ([], (refl, record { chosen = refl; doomed = refl }, free))
  by_status idle (Begin flags) free = ([], (refl, record { chosen = refl; doomed = refl }, free))
  by_status (live flags age es) (Begin more) free = ([], (refl, record { chosen = refl; doomed = refl }, free))
  by_status idle End free = ([], (refl, record { chosen = refl; doomed = refl }, free))
  by_status idle (Abort no_restart) free = ([], (refl, record { chosen = refl; doomed = refl }, free))
  by_status (live flags age es) (Do call) free = inside (Do call) (live flags age es) flags call (is_inside call) free
  by_status idle (Do call) free = (let out = by_cause (Do call) idle call (losing_cause m pid (counted_touches m pid call)) in (out.0, (out.1, free)))

  pub right_entry : (op : Op) → Free limit m (needed (status m pid) op) → HasRightEntry limit m pid op
  right_entry op free = by_status (status m pid) op free
