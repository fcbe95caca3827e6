-- The marks and the counts of directories after one change.
use Rattle.std.proofs.Common.{◌≡◌, ◌≢◌, ℕ, zero, suc, ◌⊎◌, ◌+◌, ◌<◌, ◌≤◌, ◌^◌, refl, sym, ◌∙◌, ap, subst, true, false, Bool, inl, inr, arith, cond, lit<, Result, Ok, Err, Option, Some, None, unwrap_or}
use Rattle.std.specs.Prelude.{if◌then◌else◌, ◌||◌, ◌&&◌, ◌==◌}
use Rattle.std.specs.Option.{IsSome}
use Rattle.std.specs.Result.{OnErr}
use Rattle.std.specs.BTreeMap as tree
use Rattle.std.specs.Ordering.{is_eq, nat_cmp, ordering_then}
use Rattle.std.specs.declared.cmp.Ordering.{Ordering}
use Rattle.std.specs.declared.cmp.Ordering.TheVariants.{Less, Equal, Greater}
use Rattle.std.specs.Cmp.{nat_cmp_total, tied_itself}
use Rattle.std.proofs.lemmas.Bool.{cases_eq, eqb-true, eq-eqb, ne_eqb, and_from, and_left, and_right, or_cases, or_left, or_right, or_parts, false≢true}
use Rattle.model.specs.Moments.{count_below}
use Rattle.model.specs.FiniteMap.{nat_cmp-IsAntisymmetric}
use Rattle.model.proofs.Laws.{tie}
use Rattle.list_modes.specs.Holding.{Held, Table, nothing, place_cmp, held_of, SetsHeld, IsPartOf}
use Rattle.list_modes.specs.Counted.{Counts, counts_in, no_counts, tally, recounted, all_recounted, pids, one, HasRoom, HaveRoom, IsCounted}
use Rattle.list_modes.proofs.Counting.{count_changed, count_small, counted_there}

-- the tests of std's maps are the tests of numbers
pub tests_alike : (a b : ℕ) → is_eq (nat_cmp a b) ≡ (b == a)
tests_alike a b = by_cases (is_eq (nat_cmp a b)) (b == a) refl refl
  where
    by_cases : (s t : Bool) → is_eq (nat_cmp a b) ≡ s → (b == a) ≡ t → s ≡ t
    by_cases true true e f = refl
    by_cases false false e f = refl
    by_cases true false e f = sym (eq-eqb b a (sym (nat_cmp-IsAntisymmetric a b (tie (nat_cmp a b) e)))) ∙ f
    by_cases false true e f = sym e ∙ ap (λ m. is_eq (nat_cmp a m)) (eqb-true b a f) ∙ ap is_eq (tied_itself nat_cmp_total a)

both_equal : (s t : Ordering) → is_eq (ordering_then s t) ≡ (is_eq s && is_eq t)
both_equal Less t = refl
both_equal Equal t = refl
both_equal Greater t = refl

pub places_alike : (a b : ℕ × ℕ) → is_eq (place_cmp a b) ≡ ((b.0 == a.0) && (b.1 == a.1))
places_alike a b = both_equal (nat_cmp a.0 b.0) (nat_cmp a.1 b.1) ∙ ap (λ s. s && is_eq (nat_cmp a.1 b.1)) (tests_alike a.0 b.0) ∙ ap (λ s. (b.0 == a.0) && s) (tests_alike a.1 b.1)

or_default : {X : Type 0} (b : Bool) (w o : Option X) (d : X) → unwrap_or (cond b w o) d ≡ (if b then unwrap_or w d else unwrap_or o d)
or_default true w o d = refl
or_default false w o d = refl

pub counts_updated : (m n : tree.BTreeMap ℕ Counts) (k : ℕ) (w : Option Counts) → tree.Updates nat_cmp m n k w → (d : ℕ) → counts_in n d ≡ (if d == k then unwrap_or w no_counts else counts_in m d)
counts_updated m n k w u d = ap (λ o. unwrap_or o no_counts) (u.0 d) ∙ or_default (is_eq (nat_cmp k d)) w (tree.get nat_cmp m d) no_counts ∙ ap (λ b. if b then unwrap_or w no_counts else counts_in m d) (tests_alike k d)

pub held_updated : (m n : tree.BTreeMap (ℕ × ℕ) Held) (p d : ℕ) (w : Option Held) → tree.Updates place_cmp m n (p, d) w → SetsHeld m.entries n.entries p d (unwrap_or w nothing)
held_updated m n p d w u q e = ap (λ o. unwrap_or o nothing) (u.0 (q, e)) ∙ or_default (is_eq (place_cmp (p, d) (q, e))) w (tree.get place_cmp m (q, e)) nothing ∙ ap (λ b. if b then unwrap_or w nothing else held_of m.entries q e) (places_alike (p, d) (q, e))

-- written back as it was
pub counts_same : (m n : tree.BTreeMap ℕ Counts) (k : ℕ) (w : Option Counts) → unwrap_or w no_counts ≡ counts_in m k → tree.Updates nat_cmp m n k w → (d : ℕ) → counts_in n d ≡ counts_in m d
counts_same m n k w was u d = counts_updated m n k w u d ∙ by (d == k) refl where
  by : (b : Bool) → (d == k) ≡ b → (if b then unwrap_or w no_counts else counts_in m d) ≡ counts_in m d
  by true is = was ∙ ap (counts_in m) (sym (eqb-true d k is))
  by false is = refl

pub counts_removed : (m n : tree.BTreeMap ℕ Counts) (k : ℕ) → counts_in m k ≡ no_counts → tree.Updates nat_cmp m n k None → (d : ℕ) → counts_in n d ≡ counts_in m d
counts_removed m n k empty u d = counts_same m n k None (sym empty) u d

pub counts_equal : (c e : Counts) → c.readers ≡ e.readers → c.writers ≡ e.writers → c.both ≡ e.both → c ≡ e
counts_equal c e readers writers both = λ i. record { readers = readers i; writers = writers i; both = both i }

count_same : (f g : ℕ → Bool) → ((p : ℕ) → f p ≡ g p) → (n : ℕ) → count_below f n ≡ count_below g n
count_same f g same zero = refl
count_same f g same (suc n) = ap (λ b. one b + count_below f n) (same n) ∙ ap (λ c. one (g n) + c) (count_same f g same n)

tally_same : (f g : ℕ → Held) → ((p : ℕ) → f p ≡ g p) → tally f ≡ tally g
tally_same f g same = counts_equal _ _ (count_same _ _ (λ p. ap (λ h. h.names_read) (same p)) pids) (count_same _ _ (λ p. ap (λ h. h.entry_written) (same p)) pids) (count_same _ _ (λ p. ap (λ h. h.names_read && h.entry_written) (same p)) pids)

-- With another thing held by one process at one directory, the counts that go with it.
module _ (old new : Table) (pid dir : ℕ) (after : Held) (sets : SetsHeld old new pid dir after) where
  own : held_of new pid dir ≡ after
  own = sets pid dir ∙ ap (λ b. if b then after else held_of old pid dir) (and_from (pid == pid) (dir == dir) (eq-eqb pid pid refl) (eq-eqb dir dir refl))

  pub other_process : (p d : ℕ) → p ≢ pid → held_of new p d ≡ held_of old p d
  other_process p d ne = sets p d ∙ ap (λ b. if b then after else held_of old p d) (and_left (p == pid) (d == dir) (ne_eqb p pid ne))

  other_directory : (p d : ℕ) → d ≢ dir → held_of new p d ≡ held_of old p d
  other_directory p d ne = sets p d ∙ ap (λ b. if b then after else held_of old p d) (and_right (p == pid) (d == dir) (ne_eqb d dir ne))

  -- of one mark, or of both together
  one_recounted : pid < pids → (mark : Held → Bool) → count_below (λ p. mark (held_of new p dir)) pids ≡ recounted (count_below (λ p. mark (held_of old p dir)) pids) (mark (held_of old pid dir)) (mark after)
  one_recounted small mark =
      let e : count_below (λ p. mark (held_of new p dir)) pids + one (mark (held_of old pid dir)) ≡ count_below (λ p. mark (held_of old p dir)) pids + one (mark (held_of new pid dir)) = count_changed (λ p. mark (held_of old p dir)) (λ p. mark (held_of new p dir)) pid pids (λ q ne. ap mark (other_process q dir ne)) small in
      let f : one (mark (held_of new pid dir)) ≡ one (mark after) = ap (λ h. one (mark h)) own in
      omega arith

  here_recounted : pid < pids → tally (λ p. held_of new p dir) ≡ all_recounted (tally (λ p. held_of old p dir)) (held_of old pid dir) after
  here_recounted small = counts_equal _ _ (one_recounted small (λ h. h.names_read)) (one_recounted small (λ h. h.entry_written)) (one_recounted small (λ h. h.names_read && h.entry_written))

  pub recounted_all : (c e : tree.BTreeMap ℕ Counts) → pid < pids → IsCounted old c → ((d : ℕ) → counts_in e d ≡ (if d == dir then all_recounted (counts_in c d) (held_of old pid dir) after else counts_in c d)) → IsCounted new e
  recounted_all c e small was is = record { each = each; beyond = λ p d far. other_process p d (let le : pids ≤ p = far in λ same. absurd (omega arith)) ∙ was.beyond p d far } where
    each : (d : ℕ) → counts_in e d ≡ tally (λ p. held_of new p d)
    each d = is d ∙ by (cases_eq d dir) where
      by : (d ≡ dir) ⊎ (d ≡ dir → ⊥) → (if d == dir then all_recounted (counts_in c d) (held_of old pid dir) after else counts_in c d) ≡ tally (λ p. held_of new p d)
      by (inl same) = ap (λ b. if b then all_recounted (counts_in c d) (held_of old pid dir) after else counts_in c d) (eq-eqb d dir same) ∙ ap (λ x. all_recounted x (held_of old pid dir) after) (was.each d ∙ ap (λ x. tally (λ p. held_of old p x)) same) ∙ sym (here_recounted small) ∙ ap (λ x. tally (λ p. held_of new p x)) (sym same)
      by (inr ne) = ap (λ b. if b then all_recounted (counts_in c d) (held_of old pid dir) after else counts_in c d) (ne_eqb d dir ne) ∙ was.each d ∙ tally_same (λ p. held_of old p d) (λ p. held_of new p d) (λ p. sym (other_directory p d ne))

-- nothing else is held, and the counts are as before
pub counted_same : (old new : Table) (c e : tree.BTreeMap ℕ Counts) → IsCounted old c → new ≡ old → ((d : ℕ) → counts_in e d ≡ counts_in c d) → IsCounted new e
counted_same old new c e was same is = record { each = λ d. is d ∙ was.each d ∙ ap (λ t. tally (λ p. held_of t p d)) (sym same); beyond = λ p d far. ap (λ t. held_of t p d) same ∙ was.beyond p d far }

-- a process that holds something is counted, so the directory has its counts, and there is room
mark_counted : (table : Table) (p d : ℕ) (mark : Held → Bool) → p < pids → one (mark (held_of table p d)) ≤ count_below (λ q. mark (held_of table q d)) pids
mark_counted table p d mark small = counted_there (λ q. mark (held_of table q d)) p pids small

pids_fit : pids < 2 ^ 33
unfolding pids
pids_fit = lit< tt

has_room : (table : Table) (p d n : ℕ) (mark : Held → Bool) → p < pids → n ≡ count_below (λ q. mark (held_of table q d)) pids → HasRoom n (mark (held_of table p d))
has_room table p d n mark small is =
    let there = mark_counted table p d mark small in
    let few = count_small (λ q. mark (held_of table q d)) pids in
    let fit = pids_fit in
    (omega arith, omega arith)

pub have_room : (table : Table) (c : tree.BTreeMap ℕ Counts) (p d : ℕ) → p < pids → IsCounted table c → HaveRoom (counts_in c d) (held_of table p d)
have_room table c p d small was = record {
  readers = has_room table p d _ (λ h. h.names_read) small (ap (λ x. x.readers) (was.each d));
  writers = has_room table p d _ (λ h. h.entry_written) small (ap (λ x. x.writers) (was.each d));
  both = has_room table p d _ (λ h. h.names_read && h.entry_written) small (ap (λ x. x.both) (was.each d));
}

-- a number of a process
pub below_pids : (p : ℕ) → p < 2 ^ 32 → p < pids
unfolding pids
below_pids p h = h

-- a directory without counts is held by nobody
uncounted : (table : Table) (c : tree.BTreeMap ℕ Counts) (p d : ℕ) → p < pids → IsCounted table c → counts_in c d ≡ no_counts → held_of table p d ≡ nothing
uncounted table c p d small was none = held_equal (held_of table p d) nothing
    (by (held_of table p d).names_read (le_zero _ _ (mark_counted table p d (λ h. h.names_read) small) (ap (λ x. x.readers) (sym (was.each d) ∙ none))))
    (by (held_of table p d).entry_written (le_zero _ _ (mark_counted table p d (λ h. h.entry_written) small) (ap (λ x. x.writers) (sym (was.each d) ∙ none))))
  where
    held_equal : (a b : Held) → a.names_read ≡ b.names_read → a.entry_written ≡ b.entry_written → a ≡ b
    held_equal a b names entries = λ i. record { names_read = names i; entry_written = entries i }

    le_zero : (a b : ℕ) → a ≤ b → b ≡ 0 → a ≡ 0
    le_zero a b le none = omega arith

    by : (b : Bool) → one b ≡ 0 → b ≡ false
    by true e = absurd (omega arith)
    by false e = refl

pub none_counted : (table : Table) (c : tree.BTreeMap ℕ Counts) (p d : ℕ) → p < pids → IsCounted table c → tree.get nat_cmp c d ≡ None → held_of table p d ≡ nothing
none_counted table c p d small was none = uncounted table c p d small was (ap (λ o. unwrap_or o no_counts) none)

pub some_counted : (table : Table) (c : tree.BTreeMap ℕ Counts) (p d : ℕ) → p < pids → IsCounted table c → ((held_of table p d).names_read || (held_of table p d).entry_written) ≡ true → IsSome (tree.get nat_cmp c d)
some_counted table c p d small was some = by (tree.get nat_cmp c d) refl where
  by : (o : Option Counts) → tree.get nat_cmp c d ≡ o → IsSome o
  by (Some x) is = refl
  by None is = absurd (false≢true (ap (λ h. h.names_read || h.entry_written) (sym (none_counted table c p d small was is)) ∙ some))

pub recounted_there : (m n : tree.BTreeMap ℕ Counts) (k : ℕ) (w : Counts) (before after : Held) → w ≡ all_recounted (counts_in m k) before after → tree.Updates nat_cmp m n k (Some w) → (d : ℕ) → counts_in n d ≡ (if d == k then all_recounted (counts_in m d) before after else counts_in m d)
recounted_there m n k w before after is u d = counts_updated m n k (Some w) u d ∙ by (d == k) refl where
  by : (b : Bool) → (d == k) ≡ b → (if b then w else counts_in m d) ≡ (if b then all_recounted (counts_in m d) before after else counts_in m d)
  by true same = is ∙ ap (λ e. all_recounted (counts_in m e) before after) (sym (eqb-true d k same))
  by false same = refl

pub zero_counts : (c : Counts) → c.readers ≡ 0 → c.writers ≡ 0 → c.both ≡ 0 → c ≡ no_counts
zero_counts c r w b = counts_equal c no_counts r w b

-- the counts before, kept where they are, and counted anew
pub recounted_from : (old new : Table) (pid dir : ℕ) (before after : Held) (c m e : tree.BTreeMap ℕ Counts) → pid < pids → SetsHeld old new pid dir after → IsCounted old c → ((d : ℕ) → counts_in m d ≡ counts_in c d) → before ≡ held_of old pid dir → ((d : ℕ) → counts_in e d ≡ (if d == dir then all_recounted (counts_in m d) before after else counts_in m d)) → IsCounted new e
recounted_from old new pid dir before after c m e small sets was same is now =
    recounted_all old new pid dir after sets m e small (counted_same old old c m was refl same)
    (subst (λ (h : Held). (d : ℕ) → counts_in e d ≡ (if d == dir then all_recounted (counts_in m d) h after else counts_in m d)) is now)

pub room_from : (table : Table) (c m : tree.BTreeMap ℕ Counts) (p d : ℕ) (before : Held) → p < pids → IsCounted table c → ((d : ℕ) → counts_in m d ≡ counts_in c d) → before ≡ held_of table p d → HaveRoom (counts_in m d) before
room_from table c m p d before small was same is = subst (λ (h : Held). HaveRoom (counts_in m d) h) (sym is) (have_room table m p d small (counted_same table table c m was refl same))

-- what was held was not nothing
pub some_from : (table : Table) (c : tree.BTreeMap ℕ Counts) (p d : ℕ) (before : Held) → p < pids → IsCounted table c → before ≡ held_of table p d → (before.names_read || before.entry_written) ≡ true → IsSome (tree.get nat_cmp c d)
some_from table c p d before small was is some = some_counted table c p d small was (ap (λ h. h.names_read || h.entry_written) (sym is) ∙ some)

pub part_some : (after held : Held) → IsPartOf after held → (after.names_read || after.entry_written) ≡ true → (held.names_read || held.entry_written) ≡ true
part_some after held part some = elim (or_cases after.names_read after.entry_written some) [
  | inl read ↦ or_left held.names_read held.entry_written (part.names_read read)
  | inr written ↦ or_right held.names_read held.entry_written (part.entry_written written)
]

pub some_part : (table : Table) (c : tree.BTreeMap ℕ Counts) (p d : ℕ) (after : Held) → p < pids → IsCounted table c → IsPartOf after (held_of table p d) → (after.names_read || after.entry_written) ≡ true → IsSome (tree.get nat_cmp c d)
some_part table c p d after small was part some = some_counted table c p d small was (part_some after (held_of table p d) part some)

-- what is held stands in the map of marks
pub stands : (marks : tree.BTreeMap (ℕ × ℕ) Held) (p d : ℕ) → ((held_of marks.entries p d).names_read || (held_of marks.entries p d).entry_written) ≡ true → IsSome (tree.get place_cmp marks (p, d))
stands marks p d some = by (tree.get place_cmp marks (p, d)) refl where
  by : (o : Option Held) → tree.get place_cmp marks (p, d) ≡ o → IsSome o
  by (Some x) is = refl
  by None is = absurd (false≢true (ap (λ o. (unwrap_or o nothing).names_read || (unwrap_or o nothing).entry_written) (sym is) ∙ some))

pub on_err : {T E P : Type 0} (r : Result T E) → P → OnErr r P
on_err (Ok x) p = tt
on_err (Err e) p = p

-- of nothing nothing is counted
nothing_held : (h : Held) → (h.names_read || h.entry_written) ≡ false → h ≡ nothing
nothing_held h none =
    let parts = or_parts h.names_read h.entry_written none in
    λ i. record { names_read = parts.0 i; entry_written = parts.1 i }

nothing_recounted : (c : Counts) → all_recounted c nothing nothing ≡ c
nothing_recounted c = counts_equal _ c (omega arith) (omega arith) (omega arith)

pub uncounted_from : (old new : Table) (pid dir : ℕ) (before : Held) (c : tree.BTreeMap ℕ Counts) → pid < pids → SetsHeld old new pid dir nothing → IsCounted old c → before ≡ held_of old pid dir → (before.names_read || before.entry_written) ≡ false → IsCounted new c
uncounted_from old new pid dir before c small sets was is none = recounted_from old new pid dir nothing nothing c c c small sets was (λ d. refl) (sym (nothing_held before none) ∙ is) (λ d. sym (by d (d == dir))) where
  by : (d : ℕ) (b : Bool) → (if b then all_recounted (counts_in c d) nothing nothing else counts_in c d) ≡ counts_in c d
  by d true = nothing_recounted (counts_in c d)
  by d false = refl
