-- What a process's own part says of its slots.
use Rattle.std.proofs.Common.{◌≡◌, ◌≢◌, ℕ, zero, suc, ◌+◌, ◌<◌, ◌≤◌, List, [], ◌∷◌, ◌++◌, map, flat_map, Bool, true, false, cond, ◌||◌, if◌then◌else◌, Option, Some, None, refl, sym, ap, subst, ◌∙◌, arith, ◌==◌, eq-eqb, ne_eqb, eqb-true, nat_cmp, inl, inr}
use Rattle.std.specs.Ordering.{eq_by_cmp, is_eq}
use Rattle.std.specs.Cmp.{nat_cmp_total, tied_itself}
use Rattle.std.specs.List.{AllByRecursion, list_any}
use Rattle.std.specs.Map.{lookup}
use Rattle.model.specs.FiniteMap.{get, entries, get-entries}
use Rattle.std.specs.FinMap.Entries.{find}
use Rattle.std.proofs.lemmas.Bool.{cases_eq}
use Rattle.model.specs.State.{Kernel, Description, mapped}
use Rattle.model.specs.Calls.{Slot, slot_of, Call, own}
use Rattle.model.specs.Plans.{free_from, slot_at, is_pipe, pipe_in, each_once, pipes_in}
use Rattle.model.specs.Steps.{AllDifferent}
use Rattle.call_laws.specs.Fits.{table_of, IsAmong, ListsPipe, ListsPipes}
use Rattle.model.proofs.Laws.{apart, all-append}
use Rattle.call_laws.proofs.Maps.{all-mapped, true_is_false}

-- the slot of a description
abbrev pub slot_in : Kernel → ℕ → Slot
slot_in k d = slot_of k d (get k.descriptions d)

looked : (s : ℕ → Slot) (es : List (ℕ × ℕ)) (f : ℕ) → lookup (λ g. g == f) (map (λ e. (e.0, s e.1)) es) ≡ mapped s (find nat_cmp f es)
looked s [] f = refl
looked s (e ∷ es) f = elim (cases_eq f e.0) [
  | inl same ↦ ap (λ b. cond b (Some (s e.1)) (lookup (λ g. g == f) (map (λ e. (e.0, s e.1)) es))) (eq-eqb e.0 f (sym same))
      ∙ sym (ap (λ b. mapped s (cond b (Some e.1) (find nat_cmp f es))) (ap (eq_by_cmp nat_cmp f) (sym same) ∙ ap is_eq (tied_itself nat_cmp_total f)))
  | inr away ↦ ap (λ b. cond b (Some (s e.1)) (lookup (λ g. g == f) (map (λ e. (e.0, s e.1)) es))) (ne_eqb e.0 f (λ x. away (sym x))) ∙ looked s es f
      ∙ sym (ap (λ b. mapped s (cond b (Some e.1) (find nat_cmp f es))) (apart f e.0 away))
]

pub slot_at_is : (k : Kernel) (pid : ℕ) (call : Call) (f : ℕ) → slot_at (own k pid call) f ≡ mapped (slot_in k) (get (table_of k pid) f)
slot_at_is k pid call f = looked (slot_in k) (entries (table_of k pid)) f ∙ ap (mapped (slot_in k)) (sym (get-entries (table_of k pid) f))

-- the description that a descriptor gives
pub record Held (k : Kernel) (pid f : ℕ) (it : Slot) : Type 0 where
  pub description : ℕ
  pub gives : get (table_of k pid) f ≡ Some description
  pub slot : it ≡ slot_in k description

abbrev slot_else : Slot → Option Slot → Slot
slot_else it (Some s) = s
slot_else it None = it

pub held_at : (k : Kernel) (pid : ℕ) (call : Call) (f : ℕ) (it : Slot) → slot_at (own k pid call) f ≡ Some it → Held k pid f it
held_at k pid call f it e = by_slot (get (table_of k pid) f) refl (sym (slot_at_is k pid call f) ∙ e)
  where
    by_slot : (x : Option ℕ) → get (table_of k pid) f ≡ x → mapped (slot_in k) x ≡ Some it → Held k pid f it
    by_slot None is e = absurd cc
    by_slot (Some d) is e = record { description = d; gives = is; slot = sym (ap (slot_else it) e) }

pub number_in_slot : (k : Kernel) (d : ℕ) (x : Option Description) → (slot_of k d x).description ≡ d
number_in_slot k d None = refl
number_in_slot k d (Some it) = refl

-- a description's pipe is the one that its slot tells
pub pipe_listed : (k : Kernel) (d : ℕ) → ListsPipe k (pipe_in (Some (slot_in k d))) d
pipe_listed k d it is pipe =
    subst (λ x. IsAmong (pipe_in (Some (slot_of k d x))) it.inode) (sym is)
    (subst (λ what. IsAmong (if is_pipe what then it.inode ∷ [] else []) it.inode) (sym pipe) (λ h. h.0 refl))

pub among_left : (xs ys : List ℕ) (p : ℕ) → IsAmong xs p → IsAmong (xs ++ ys) p
among_left xs ys p a h = a (all-append (λ q. q ≢ p) xs ys h).0

pub among_right : (xs ys : List ℕ) (p : ℕ) → IsAmong ys p → IsAmong (xs ++ ys) p
among_right xs ys p a h = a (all-append (λ q. q ≢ p) xs ys h).1

-- free descriptors
unnamed : (s : ℕ → Slot) (es : List (ℕ × ℕ)) (f : ℕ) → list_any (λ (e : ℕ × Slot). e.0 == f) (map (λ e. (e.0, s e.1)) es) ≡ false → find nat_cmp f es ≡ None
unnamed s [] f h = refl
unnamed s (e ∷ es) f h = elim (cases_eq f e.0) [
  | inl same ↦ absurd (true_is_false (sym (ap (λ b. b || list_any (λ (e : ℕ × Slot). e.0 == f) (map (λ e. (e.0, s e.1)) es)) (eq-eqb e.0 f (sym same))) ∙ h))
  | inr away ↦ ap (λ b. cond b (Some e.1) (find nat_cmp f es)) (apart f e.0 away)
      ∙ unnamed s es f (sym (ap (λ b. b || list_any (λ (e : ℕ × Slot). e.0 == f) (map (λ e. (e.0, s e.1)) es)) (ne_eqb e.0 f (λ x. away (sym x)))) ∙ h)
]

-- so many descriptors from f on
abbrev pub IsFreeIn : List (ℕ × Slot) → ℕ → ℕ → ℕ → Type 0
IsFreeIn table f count g = (list_any (λ e. e.0 == g) table ≡ false) × (f ≤ g) × (g < f + count)

pub all_free : (table : List (ℕ × Slot)) (f count : ℕ) → AllByRecursion (IsFreeIn table f count) (free_from table f count)
all_free table f zero = tt
all_free table f (suc more) =
    by_test (list_any (λ e. e.0 == f) table) refl
    (all-mapped (free_from table (suc f) more) (λ g h. let low : suc f ≤ g = h.1 in let high : g < suc f + more = h.2 in (h.0, omega arith, omega arith)) (all_free table (suc f) more))
  where
    by_test : (b : Bool) → list_any (λ e. e.0 == f) table ≡ b → AllByRecursion (IsFreeIn table f (suc more)) (free_from table (suc f) more) → AllByRecursion (IsFreeIn table f (suc more)) (if b then free_from table (suc f) more else f ∷ free_from table (suc f) more)
    by_test true e rest = rest
    by_test false e rest = ((e, omega arith, omega arith), rest)

pub free_different : (table : List (ℕ × Slot)) (f count : ℕ) → AllDifferent (free_from table f count)
free_different table f zero = tt
free_different table f (suc more) = by_test (list_any (λ e. e.0 == f) table) (free_different table (suc f) more)
  where
    by_test : (b : Bool) → AllDifferent (free_from table (suc f) more) → AllDifferent (if b then free_from table (suc f) more else f ∷ free_from table (suc f) more)
    by_test true rest = rest
    by_test false rest = (all-mapped (free_from table (suc f) more) (λ g h e. let low : suc f ≤ g = h.1 in omega (arith, e)) (all_free table (suc f) more), rest)

pub free_slot : (k : Kernel) (pid : ℕ) (call : Call) (f count g : ℕ) → IsFreeIn (own k pid call).table f count g → get (table_of k pid) g ≡ None
free_slot k pid call f count g h = get-entries (table_of k pid) g ∙ unnamed (slot_in k) (entries (table_of k pid)) g h.0

-- each number that is not among those kept once is not among all
some_is : (before : List ℕ) (n p : ℕ) → list_any (λ m. m == n) before ≡ true → AllByRecursion (λ q. q ≢ p) before → n ≢ p
some_is [] n p e h = absurd cc
some_is (m ∷ ms) n p e h = by_test (m == n) refl e (λ e. some_is ms n p e h.1)
  where
    by_test : (b : Bool) → (m == n) ≡ b → (b || list_any (λ m. m == n) ms) ≡ true → (list_any (λ m. m == n) ms ≡ true → n ≢ p) → n ≢ p
    by_test true is e rest = λ same. h.0 (eqb-true m n is ∙ same)
    by_test false is e rest = rest e

once : (before ns : List ℕ) (p : ℕ) → AllByRecursion (λ q. q ≢ p) before → AllByRecursion (λ q. q ≢ p) (each_once before ns) → AllByRecursion (λ q. q ≢ p) ns
once before [] p g h = tt
once before (n ∷ ns) p g h = by_test (list_any (λ m. m == n) before) refl h (λ h. once before ns p g h) (λ away h. once (n ∷ before) ns p (away, g) h)
  where
    by_test : (b : Bool) → list_any (λ m. m == n) before ≡ b → AllByRecursion (λ q. q ≢ p) (if b then each_once before ns else n ∷ each_once (n ∷ before) ns)
        → (AllByRecursion (λ q. q ≢ p) (each_once before ns) → AllByRecursion (λ q. q ≢ p) ns)
        → (n ≢ p → AllByRecursion (λ q. q ≢ p) (each_once (n ∷ before) ns) → AllByRecursion (λ q. q ≢ p) ns)
        → AllByRecursion (λ q. q ≢ p) (n ∷ ns)
    by_test true e h one two = (some_is before n p e g, one h)
    by_test false e h one two = (h.0, two h.0 h.1)

in_all : (s : ℕ → Slot) (es : List (ℕ × ℕ)) (f d p : ℕ) → find nat_cmp f es ≡ Some d → AllByRecursion (λ q. q ≢ p) (flat_map (λ (e : ℕ × Slot). pipe_in (Some e.1)) (map (λ e. (e.0, s e.1)) es)) → AllByRecursion (λ q. q ≢ p) (pipe_in (Some (s d)))
in_all s [] f d p e h = absurd cc
in_all s (x ∷ es) f d p e h =
    let parts = all-append (λ q. q ≢ p) (pipe_in (Some (s x.1))) (flat_map (λ (e : ℕ × Slot). pipe_in (Some e.1)) (map (λ e. (e.0, s e.1)) es)) h in
    by_test (eq_by_cmp nat_cmp f x.0) e parts.0 (λ e. in_all s es f d p e parts.1)
  where
    number_else : Option ℕ → ℕ
    number_else (Some n) = n
    number_else None = 0

    by_test : (b : Bool) → cond b (Some x.1) (find nat_cmp f es) ≡ Some d → AllByRecursion (λ q. q ≢ p) (pipe_in (Some (s x.1))) → (find nat_cmp f es ≡ Some d → AllByRecursion (λ q. q ≢ p) (pipe_in (Some (s d)))) → AllByRecursion (λ q. q ≢ p) (pipe_in (Some (s d)))
    by_test true e g rest = subst (λ d. AllByRecursion (λ q. q ≢ p) (pipe_in (Some (s d)))) (ap number_else e) g
    by_test false e g rest = rest e

-- each pipe that the process has open is told
pub pipes_listed : (k : Kernel) (pid : ℕ) (call : Call) → ListsPipes k pid (pipes_in (own k pid call))
pipes_listed k pid call f d gives it is pipe none =
    pipe_listed k d it is pipe (in_all (slot_in k) (entries (table_of k pid)) f d it.inode (sym (get-entries (table_of k pid) f) ∙ gives)
    (once [] (flat_map (λ (e : ℕ × Slot). pipe_in (Some e.1)) (own k pid call).table) it.inode tt none))
