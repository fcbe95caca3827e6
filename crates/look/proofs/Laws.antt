-- What a process's list of open descriptors tells of one of them, by the process's table.
use Rattle.std.proofs.Common.{◌≡◌, ℕ, suc, ◌+◌, ◌-◌, ◌<◌, ◌≤◌, List, [], ◌∷◌, map, true, false, cond, ◌||◌, if◌then◌else◌, Some, None, refl, sym, ap, ◌∙◌, arith, ◌==◌, eq-eqb, ne_eqb, nat_cmp, inl, inr, add-one}
use Rattle.std.specs.Ordering.{eq_by_cmp, is_eq}
use Rattle.std.specs.Option.{is_some}
use Rattle.std.specs.Cmp.{nat_cmp_total, tied_itself}
use Rattle.std.specs.List.{list_any}
use Rattle.std.specs.Map.{lookup}
use Rattle.std.specs.FinMap.Entries.{find}
use Rattle.std.proofs.lemmas.Bool.{cases_eq, cases_lt}
use Rattle.model.specs.FiniteMap.{contains_key, get, entries, get-entries}
use Rattle.model.specs.State.{Kernel, mapped}
use Rattle.model.specs.Changes.{process_of}
use Rattle.model.specs.Calls.{Slot, slot_of}
use Rattle.model.specs.Plans.{slot_at, free_from, open_limit}
use Rattle.model.proofs.Laws.{apart}
use Rattle.look.specs.Shown.{own_in, table_of, first_of, first_free}

-- what never changes of a description
abbrev described : Kernel → ℕ → Slot
described k d = slot_of k d (get k.descriptions d)

looked : (s : ℕ → Slot) (es : List (ℕ × ℕ)) (f : ℕ) → lookup (λ g. g == f) (map (λ e. (e.0, s e.1)) es) ≡ mapped s (find nat_cmp f es)
looked s [] f = refl
looked s (e ∷ es) f = elim (cases_eq f e.0) [
  | inl same ↦ ap (λ b. cond b (Some (s e.1)) (lookup (λ g. g == f) (map (λ e. (e.0, s e.1)) es))) (eq-eqb e.0 f (sym same))
      ∙ sym (ap (λ b. mapped s (cond b (Some e.1) (find nat_cmp f es))) (ap (eq_by_cmp nat_cmp f) (sym same) ∙ ap is_eq (tied_itself nat_cmp_total f)))
  | inr away ↦ ap (λ b. cond b (Some (s e.1)) (lookup (λ g. g == f) (map (λ e. (e.0, s e.1)) es))) (ne_eqb e.0 f (λ x. away (sym x))) ∙ looked s es f
      ∙ sym (ap (λ b. mapped s (cond b (Some e.1) (find nat_cmp f es))) (apart f e.0 away))
]

listed : (s : ℕ → Slot) (es : List (ℕ × ℕ)) (f : ℕ) → list_any (λ (e : ℕ × Slot). e.0 == f) (map (λ e. (e.0, s e.1)) es) ≡ is_some (find nat_cmp f es)
listed s [] f = refl
listed s (e ∷ es) f = elim (cases_eq f e.0) [
  | inl same ↦ ap (λ b. b || list_any (λ (e : ℕ × Slot). e.0 == f) (map (λ e. (e.0, s e.1)) es)) (eq-eqb e.0 f (sym same))
      ∙ sym (ap (λ b. is_some (cond b (Some e.1) (find nat_cmp f es))) (ap (eq_by_cmp nat_cmp f) (sym same) ∙ ap is_eq (tied_itself nat_cmp_total f)))
  | inr away ↦ ap (λ b. b || list_any (λ (e : ℕ × Slot). e.0 == f) (map (λ e. (e.0, s e.1)) es)) (ne_eqb e.0 f (λ x. away (sym x))) ∙ listed s es f
      ∙ sym (ap (λ b. is_some (cond b (Some e.1) (find nat_cmp f es))) (apart f e.0 away))
]

slot_is : (k : Kernel) (pid f : ℕ) → slot_at (own_in k pid) f ≡ mapped (described k) (get (process_of k pid).table f)
slot_is k pid f = looked (described k) (entries (process_of k pid).table) f ∙ ap (mapped (described k)) (sym (get-entries (process_of k pid).table f))

-- a descriptor that the table gives, and one that it lacks
pub slot_told : (k : Kernel) (pid f d : ℕ) (slot : Slot) → Some d ≡ get (process_of k pid).table f → slot ≡ slot_of k d (get k.descriptions d) → Some slot ≡ slot_at (own_in k pid) f
slot_told k pid f d slot given is = ap Some is ∙ ap (mapped (described k)) given ∙ sym (slot_is k pid f)

pub no_slot : (k : Kernel) (pid f : ℕ) → None ≡ get (process_of k pid).table f → None ≡ slot_at (own_in k pid) f
no_slot k pid f lacks = ap (mapped (described k)) lacks ∙ sym (slot_is k pid f)

listed_is : (k : Kernel) (pid f : ℕ) → list_any (λ e. e.0 == f) (table_of k pid) ≡ contains_key (process_of k pid).table f
listed_is k pid f = listed (described k) (entries (process_of k pid).table) f ∙ ap is_some (sym (get-entries (process_of k pid).table f))

-- those that are free from a descriptor on, where it is open, and where it is free
pub rest_of_open : (table : List (ℕ × Slot)) (first more : ℕ) → list_any (λ e. e.0 == first) table ≡ true → free_from table first (suc more) ≡ free_from table (first + 1) more
rest_of_open table first more taken =
    ap (λ b. if b then free_from table (suc first) more else first ∷ free_from table (suc first) more) taken
    ∙ ap (λ n. free_from table n more) (sym (add-one first))

pub rest_of_free : (table : List (ℕ × Slot)) (first more : ℕ) → list_any (λ e. e.0 == first) table ≡ false → free_from table first (suc more) ≡ first ∷ free_from table (first + 1) more
rest_of_free table first more free =
    ap (λ b. if b then free_from table (suc first) more else first ∷ free_from table (suc first) more) free
    ∙ ap (λ n. first ∷ free_from table n more) (sym (add-one first))

one_less : (limit first : ℕ) → first < limit → limit - first ≡ suc (limit - (first + 1))
one_less limit first low = omega arith

-- how many descriptors a process may have
abbrev pub limit_of : Kernel → ℕ → ℕ
limit_of k pid = open_limit (own_in k pid)

-- the lowest free one from a descriptor on, where that is open, where it is free, and behind the last
pub open_is_passed : (k : Kernel) (pid first : ℕ) → first < limit_of k pid → contains_key (process_of k pid).table first ≡ true → first_free k pid first ≡ first_free k pid (first + 1)
unfolding first_free
open_is_passed k pid first low taken =
    ap (λ n. first_of (free_from (table_of k pid) first n)) (one_less (limit_of k pid) first low)
    ∙ ap first_of (rest_of_open (table_of k pid) first (limit_of k pid - (first + 1)) (listed_is k pid first ∙ taken))

pub free_is_first : (k : Kernel) (pid first : ℕ) → first < limit_of k pid → contains_key (process_of k pid).table first ≡ false → first_free k pid first ≡ Some first
unfolding first_free
free_is_first k pid first low free =
    ap (λ n. first_of (free_from (table_of k pid) first n)) (one_less (limit_of k pid) first low)
    ∙ ap first_of (rest_of_free (table_of k pid) first (limit_of k pid - (first + 1)) (listed_is k pid first ∙ free))

pub none_behind : (k : Kernel) (pid first : ℕ) → limit_of k pid ≤ first → first_free k pid first ≡ None
unfolding first_free
none_behind k pid first past =
    let none : limit_of k pid - first ≡ 0 = omega (arith, past) in
    ap (λ n. first_of (free_from (table_of k pid) first n)) none

-- so many that are open are passed
pub all_passed : (k : Kernel) (pid first count : ℕ) → first + count ≤ limit_of k pid → ((g : ℕ) → first ≤ g → g < first + count → contains_key (process_of k pid).table g ≡ true)
    → first_free k pid first ≡ first_free k pid (first + count)
all_passed k pid first ℕ.zero low taken = let same : first ≡ first + 0 = omega arith in ap (first_free k pid) same
all_passed k pid first (suc count) low taken =
    let next : first + 1 + count ≡ first + suc count = omega arith in
    open_is_passed k pid first (omega (arith, low)) (taken first (omega arith) (omega arith))
    ∙ all_passed k pid (first + 1) count (omega (arith, low)) (λ g from below. taken g (omega (arith, from)) (omega (arith, below)))
    ∙ ap (first_free k pid) next

-- the lowest free one, by the rule; and that there is none
pub lowest_is_first : (k : Kernel) (pid first f : ℕ) → first ≤ f → f < limit_of k pid → contains_key (process_of k pid).table f ≡ false
    → ((g : ℕ) → first ≤ g → g < f → contains_key (process_of k pid).table g ≡ true) → first_free k pid first ≡ Some f
lowest_is_first k pid first f from low free taken =
    let there : first + (f - first) ≡ f = omega (arith, from) in
    all_passed k pid first (f - first) (omega (arith, from, low)) (λ g high below. taken g high (omega (arith, from, below)))
    ∙ ap (first_free k pid) there ∙ free_is_first k pid f low free

pub all_are_open : (k : Kernel) (pid first : ℕ) → ((g : ℕ) → first ≤ g → g < limit_of k pid → contains_key (process_of k pid).table g ≡ true) → first_free k pid first ≡ None
all_are_open k pid first taken = elim (cases_lt first (limit_of k pid)) [
  | inl low ↦ (
      let there : first + (limit_of k pid - first) ≡ limit_of k pid = omega (arith, low) in
      all_passed k pid first (limit_of k pid - first) (omega (arith, low)) (λ g high below. taken g high (omega (arith, low, below)))
      ∙ ap (first_free k pid) there ∙ none_behind k pid (limit_of k pid) (omega arith))
  | inr past ↦ none_behind k pid first past
]
