-- One slot of a process gives another description: the processes, and how often each is held.
use Rattle.std.proofs.Common.{◌≡◌, ◌≢◌, ℕ, zero, suc, ◌+◌, ◌*◌, ◌-◌, ◌<◌, ◌≤◌, ◌^◌, Bool, true, false, cond, List, [], ◌∷◌, ◌++◌, ◌==◌, length, Option, Some, None, nat_cmp, refl, sym, ap, subst, ◌∙◌, arith, inl, inr}
use Rattle.std.specs.List.{AllByRecursion}
use Rattle.std.specs.Cmp.{nat_cmp_total}
use Rattle.std.proofs.lemmas.Bool.{cases_eq, cases_lt}
use Rattle.std.proofs.lemmas.List.Sums.{sum_by-append, sum_by-cons}
use Rattle.std.proofs.lemmas.List.{get_or-set_other, get_or-set_same, length-set}
use Rattle.ids.specs.declared.limits.TheConstants.{DESCRIPTORS}
use Rattle.model.specs.FiniteMap.{FinMap, contains_key, entries, get, insert, len, len-entries, len_before_remove, remove, same_map, nat_cmp-IsAntisymmetric}
use Rattle.model.specs.State.{Kernel, Process}
use Rattle.model.specs.Changes.{holders, or_new, set_process, with_slot, without_slot}
use Rattle.model.proofs.Laws.{all_entries, get_other, get_same, removed_other, removed_same}
use Rattle.call_laws.specs.WellFormed.{WellFormed, most_descriptors}
use Rattle.call_laws.proofs.Laws.{not_none, some_same}
use Rattle.freeing_laws.specs.Counts.{listed, times}
use Rattle.freeing_laws.proofs.Left.{left_is_tidy_lem}
use Rattle.freeing_laws.proofs.Openings.{openings_change_lem}
use Rattle.store.specs.Numbers.{Numbers}
use Rattle.store.specs.declared.Opened.{Opened}
use Rattle.shadow.specs.Stored.{AreCounted, Processes, numbered, state_of, with_process}
use Rattle.notes.specs.Openings.{slot_noted}
use Rattle.shadow.specs.Laid.{AreHeld, AreLow, IsOneLess, IsOneMore, IsSlotted, SameStore, WasHeld, table_in}
use Rattle.shadow.proofs.shared.ProcessLemmas.{no_process, process_of_number}
use Rattle.shadow.proofs.shared.PipePairLemmas.{same_pairs}

at_most_one : (b : Bool) → cond {A = ℕ} b 1 0 ≤ 1
at_most_one true = omega arith
at_most_one false = omega arith

-- keys below a limit are not more than the limit
module _ {X : Type 0} where
  none_below : (es : List (ℕ × X)) → AllByRecursion (λ (e : ℕ × X). e.0 < 0) es → length es ≡ 0
  none_below [] h = refl
  none_below (e ∷ es) h = absurd (let below : e.0 < 0 = h.0 in omega arith)

  pub few_keys : (limit : ℕ) (m : FinMap nat_cmp X) → ((q : ℕ) (x : X) → get m q ≡ Some x → q < limit) → len m ≤ limit
  few_keys zero m low =
      let none : len m ≡ 0 = len-entries m ∙ none_below (entries m) (all_entries nat_cmp_total (λ q x. q < 0) m low) in
      omega arith
  few_keys (suc limit) m low =
      let fewer : cond {A = ℕ} (contains_key m limit) 1 0 + len (remove m limit) ≡ len m = len_before_remove nat_cmp_total m limit in
      let last : cond {A = ℕ} (contains_key m limit) 1 0 ≤ 1 = at_most_one (contains_key m limit) in
      let rest : len (remove m limit) ≤ limit = few_keys limit (remove m limit) (λ q x is.
      let was = left q x is in
      let below : q < suc limit = low q x was.1 in
      let away : q ≢ limit = was.0 in
      omega arith) in
      omega arith
    where
      left : (q : ℕ) (x : X) → get (remove m limit) q ≡ Some x → (q ≢ limit) × (get m q ≡ Some x)
      left q x is = elim (cases_eq q limit) [
        | inl same ↦ absurd (not_none x (sym is ∙ ap (get (remove m limit)) same ∙ removed_same m limit))
        | inr away ↦ (away, sym (removed_other m limit q away) ∙ is)
      ]

-- a number of a process that is there
process_there : (ps : Processes) (q : ℕ) (p : Process) → get (numbered ps) q ≡ Some p → q < suc (length ps.list)
process_there ps q p is = elim (cases_lt q (suc (length ps.list))) [
  | inl low ↦ low
  | inr high ↦ absurd (not_none p (sym is ∙ no_process ps q (inr (omega (arith, high)))))
]

-- in a well-formed state the descriptors are below the limit
pub well_low : (ps : Processes) (s : Numbers) → WellFormed (state_of ps s) → AreLow ps
well_low ps s well = λ pid f d is.
    let low : f < most_descriptors (state_of ps s) = well.low pid f d is in
    omega arith

-- how often a number stands in two lists, and in a list of one or none
pub times_both : (d : ℕ) (xs ys : List ℕ) → times d (xs ++ ys) ≡ times d xs + times d ys
times_both d xs ys = sum_by-append (λ v. cond {A = ℕ} (v == d) 1 0) xs ys

pub listed_once : (d : ℕ) (g : Option ℕ) → times d (listed g) ≤ 1
listed_once d (Some e) =
    let sum : times d (e ∷ []) ≡ cond {A = ℕ} (e == d) 1 0 + times d [] = sum_by-cons (λ v. cond {A = ℕ} (v == d) 1 0) e [] in
    let none : times d [] ≡ 0 = refl in
    let one : cond {A = ℕ} (e == d) 1 0 ≤ 1 = at_most_one (e == d) in
    omega (arith, sum, none, one)
listed_once d None = let none : times d [] ≡ 0 = refl in omega (arith, none)

-- there are few holders of a description
pub few_holders : (ps : Processes) (s : Numbers) (d : ℕ) → AreLow ps → length ps.list < 2 ^ 64 → holders (state_of ps s) d + DESCRIPTORS < 2 ^ 128
few_holders ps s d low few =
    let most : holders (state_of ps s) d ≤ DESCRIPTORS * len (numbered ps) = openings_change_lem.most_holders (state_of ps s) d (λ pid it is. few_keys DESCRIPTORS it.table (λ f e gives. low pid f e (ap (λ o. get (table_in o) f) is ∙ gives))) in
    let all : len (numbered ps) ≤ suc (length ps.list) = few_keys (suc (length ps.list)) (numbered ps) (process_there ps) in
    omega arith

-- one place changes
module _ (ps : Processes) (pid : ℕ) (new : Option Process) (some : 0 < pid) (low : pid ≤ length ps.list) where
  abbrev after : Processes
  after = with_process pid new ps

  pub same_count : length after.list ≡ length ps.list
  same_count = length-set ps.list (pid - 1) new

  pub numbered_here : get (numbered after) pid ≡ new
  numbered_here = process_of_number after pid some ∙ get_or-set_same ps.list (pid - 1) new None (omega arith)

  pub numbered_others : (q : ℕ) → q ≢ pid → get (numbered after) q ≡ get (numbered ps) q
  numbered_others q away = elim (cases_eq q 0) [
    | inl none ↦ no_process after q (inl none) ∙ sym (no_process ps q (inl none))
    | inr more ↦
        process_of_number after q (omega (arith, more))
        ∙ get_or-set_other ps.list (pid - 1) (q - 1) new None (λ same. away (omega (arith, same, more)))
        ∙ sym (process_of_number ps q (omega (arith, more)))
  ]

-- a process changes
module _ (ps : Processes) (pid : ℕ) (new : Process) (some : 0 < pid) (low : pid ≤ length ps.list) where
  pub numbered_set : numbered (with_process pid (Some new) ps) ≡ insert (numbered ps) pid new
  numbered_set = same_map nat_cmp_total nat_cmp-IsAntisymmetric _ _ (λ q. elim (cases_eq q pid) [
    | inl same ↦ ap (get (numbered (with_process pid (Some new) ps))) same ∙ numbered_here ps pid (Some new) some low ∙ sym (ap (get (insert (numbered ps) pid new)) same ∙ get_same (numbered ps) pid new)
    | inr away ↦ numbered_others ps pid (Some new) some low q away ∙ sym (get_other (numbered ps) pid q new away)
  ])

-- the slot of a process after this was given to it
given_low : (f : ℕ) (given : Option ℕ) (o : Option Process) (new : Process) → Some new ≡ slot_noted f given o → f < DESCRIPTORS → (g d : ℕ) → get new.table g ≡ Some d → ((g d : ℕ) → get (table_in o) g ≡ Some d → g < DESCRIPTORS) → g < DESCRIPTORS
given_low f (Some e) o new is fits g d gives low = elim (cases_eq g f) [
  | inl same ↦ subst (λ g. g < DESCRIPTORS) (sym same) fits
  | inr away ↦ low g d (sym (get_other (table_in o) f g e away) ∙ ap (λ (p : Process). get p.table g) (sym (some_same new (with_slot f e (or_new o)) is)) ∙ gives)
]
given_low f None o new is fits g d gives low = elim (cases_eq g f) [
  | inl same ↦ subst (λ g. g < DESCRIPTORS) (sym same) fits
  | inr away ↦ low g d (sym (removed_other (table_in o) f g away) ∙ ap (λ (p : Process). get p.table g) (sym (some_same new (without_slot f (or_new o)) is)) ∙ gives)
]

-- how often a description is held then
pub held_then : (k : Kernel) (pid f : ℕ) (given : Option ℕ) (new : Process) → Some new ≡ slot_noted f given (get k.processes pid) → (e : ℕ)
    → holders (set_process pid new k) e + times e (listed (get (table_in (get k.processes pid)) f)) ≡ holders k e + times e (listed given)
held_then k pid f (Some d) new is e =
    ap (λ p. holders (set_process pid p k) e + times e (listed (get (table_in (get k.processes pid)) f))) (some_same new (with_slot f d (or_new (get k.processes pid))) is)
    ∙ left_is_tidy_lem.set k pid f d e
held_then k pid f None new is e =
    let none : times e [] ≡ 0 = refl in
    let cleared : holders (set_process pid (without_slot f (or_new (get k.processes pid))) k) e + times e (listed (get (table_in (get k.processes pid)) f)) ≡ holders k e = left_is_tidy_lem.cleared k pid f e in
    ap (λ p. holders (set_process pid p k) e + times e (listed (get (table_in (get k.processes pid)) f))) (some_same new (without_slot f (or_new (get k.processes pid))) is)
    ∙ omega arith

-- one after the other
pub same_store_same : (s t u : Numbers) → SameStore s t → SameStore t u → SameStore s u
same_store_same s t u first later = record {
  root = later.root ∙ first.root;
  inodes = later.inodes ∙ first.inodes;
  rights = later.rights ∙ first.rights;
  staged = λ h. later.staged (first.staged h);
}

module _ (ps : Processes) (pid f : ℕ) (given former : Option ℕ) (new : Process) (s t u : Numbers) (some : 0 < pid) (low : pid ≤ length ps.list) (fits : f < DESCRIPTORS) (few : length ps.list < 2 ^ 64)
    (was : former ≡ get (table_in (get (numbered ps) pid)) f) (gives : Some new ≡ slot_noted f given (get (numbered ps) pid))
    (more : AreHeld (IsOneMore given) s t) (less : AreHeld (IsOneLess former) t u) where
  abbrev qs : Processes
  qs = with_process pid (Some new) ps

  holders_now : (e : ℕ) → holders (state_of qs u) e + times e (listed former) ≡ holders (state_of ps s) e + times e (listed given)
  holders_now e =
      let held : holders (set_process pid new (state_of ps s)) e + times e (listed (get (table_in (get (numbered ps) pid)) f)) ≡ holders (state_of ps s) e + times e (listed given) = held_then (state_of ps s) pid f given new gives e in
      let same : holders (state_of qs u) e ≡ holders (set_process pid new (state_of ps s)) e = openings_change_lem.by_processes (set_process pid new (state_of ps s)) (state_of qs u) (numbered_set ps pid new some low) e in
      let it : times e (listed former) ≡ times e (listed (get (table_in (get (numbered ps) pid)) f)) = ap (λ o. times e (listed o)) was in
      omega arith

  counted_now : AreLow ps → AreCounted ps s → AreCounted qs u
  counted_now all counted = record {
    openings = λ n file is. counted.openings n file (more.files n file (less.files n file is)) ∙ sym (openings_change_lem.by_descriptions (state_of ps s) (state_of qs u) (less.descriptions ∙ more.descriptions) n);
    holders = λ d opened is. of_holders d opened (less.opened d opened is);
    pipes = λ p pipe is. same_pairs (state_of ps s) (state_of qs u) (less.descriptions ∙ more.descriptions) p pipe.reader pipe.writer (counted.pipes p pipe (more.pipes p pipe (less.pipes p pipe is)));
  }
    where
      of_holders : (d : ℕ) (opened : Opened) → WasHeld (IsOneLess former d) t d opened → opened.holders ≡ holders (state_of qs u) d
      of_holders d opened mid = from_start (more.opened d mid.before mid.held)
        where
          from_start : WasHeld (IsOneMore given d) s d mid.before → opened.holders ≡ holders (state_of qs u) d
          from_start start =
              let first : start.before.holders ≡ holders (state_of ps s) d = counted.holders d start.before start.held in
              let bound : holders (state_of ps s) d + DESCRIPTORS < 2 ^ 128 = few_holders ps s d all few in
              let one : times d (listed given) ≤ 1 = listed_once d given in
              let second : mid.before.holders ≡ start.before.holders + times d (listed given) = start.count (omega (arith, first, bound, one)) in
              let third : opened.holders ≡ mid.before.holders - times d (listed former) = mid.count in
              let law : holders (state_of qs u) d + times d (listed former) ≡ holders (state_of ps s) d + times d (listed given) = holders_now d in
              omega (arith, first, second, third, law)

  low_now : AreLow ps → AreLow qs
  low_now all q g d is = elim (cases_eq q pid) [
    | inl same ↦ given_low f given (get (numbered ps) pid) new gives fits g d (ap (λ o. get (table_in o) g) (sym (numbered_here ps pid (Some new) some low)) ∙ ap (λ q. get (table_in (get (numbered qs) q)) g) (sym same) ∙ is) (all pid)
    | inr away ↦ all q g d (ap (λ o. get (table_in o) g) (sym (numbered_others ps pid (Some new) some low q away)) ∙ is)
  ]

  pub slotted : IsSlotted pid f given ps qs s u
  slotted = record {
    stay = record {
      same = same_store_same s t u more.same less.same;
      descriptions = less.descriptions ∙ more.descriptions;
      reserves = λ n. less.reserves n ∙ more.reserves n;
      count = same_count ps pid (Some new) some low;
      bounds = refl;
      low = low_now;
      counted = counted_now;
    };
    here = numbered_here ps pid (Some new) some low ∙ gives;
    others = numbered_others ps pid (Some new) some low;
  }
