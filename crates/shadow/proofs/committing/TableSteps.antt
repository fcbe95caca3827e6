-- The slots of one process that change, all at once.
use Rattle.std.proofs.Common.{◌≡◌, ◌≢◌, ℕ, ◌+◌, ◌-◌, ◌<◌, ◌≤◌, ◌^◌, Bool, true, false, cond, List, [], ◌∷◌, ◌++◌, length, Option, Some, None, nat_cmp, refl, sym, ap, subst, ◌∙◌, arith, inl, inr}
use Rattle.std.specs.Cmp.{nat_cmp_total}
use Rattle.std.specs.List.{flat_map}
use Rattle.std.proofs.lemmas.Bool.{cases_eq}
use Rattle.std.proofs.lemmas.List.Concat.{flat_map-cons}
use Rattle.std.specs.Ordering.{eq_by_cmp}
use Rattle.ids.specs.declared.limits.TheConstants.{DESCRIPTORS}
use Rattle.model.specs.FiniteMap.{FinMap, entries, entries_sorted, find, get, get-entries, insert, len, len-entries, same_map, nat_cmp-IsAntisymmetric}
use Rattle.model.specs.State.{Process, mapped}
use Rattle.model.specs.Changes.{holders, set_process}
use Rattle.model.proofs.Laws.{get_other, get_same}
use Rattle.call_laws.proofs.Laws.{not_none, some_same}
use Rattle.fdtable.specs.Patches.{Given, IsFormer, or_before}
use Rattle.freeing_laws.specs.Counts.{listed, times}
use Rattle.freeing_laws.proofs.Openings.{openings_change_lem}
use Rattle.store.specs.Numbers.{Numbers}
use Rattle.store.specs.declared.Opened.{Opened}
use Rattle.shadow.specs.Stored.{AreCounted, Processes, numbered, state_of}
use Rattle.notes.specs.Patches.{reslotted, reslotted_by, slots_in, with_slots}
use Rattle.shadow.specs.Laid.{AreHeld, AreLow, IsLessBy, IsMoreBy, IsReslotted, SlotsStay, WasHeld, given_by, giving, table_in}
use Rattle.shadow.proofs.shared.PipePairLemmas.{same_pairs}
use Rattle.shadow.proofs.shared.RisingKeys.{entries_keyed, keyed}
use Rattle.shadow.proofs.committing.HolderCounts.{once_here}
use Rattle.notes.proofs.Laws.{map_over, new_of}
use Rattle.shadow.proofs.committing.SlotSteps.{few_holders, few_keys, listed_once, same_store_same, times_both}
use Rattle.shadow.proofs.committing.SlotSums.{gave, held_after, listed_given}

-- one after the other, what stays stays
pub stays_still : (ps : Processes) (s : Numbers) → SlotsStay ps ps s s
stays_still ps s = record {
  same = record { root = refl; inodes = refl; rights = refl; staged = λ h. h };
  descriptions = refl;
  reserves = λ n. refl;
  count = refl;
  bounds = refl;
  low = λ h. h;
  counted = λ low h. h;
}

pub stays_on : (ps qs rs : Processes) (s t u : Numbers) → SlotsStay ps qs s t → SlotsStay qs rs t u → SlotsStay ps rs s u
stays_on ps qs rs s t u first later = record {
  same = same_store_same s t u first.same later.same;
  descriptions = later.descriptions ∙ first.descriptions;
  reserves = λ n. later.reserves n ∙ first.reserves n;
  count = later.count ∙ first.count;
  bounds = later.bounds ∙ first.bounds;
  low = λ h. later.low (first.low h);
  counted = λ low h. later.counted (first.low low) (first.counted low h);
}

-- a process that is there stays so where its slots change
pub still_there : (given : Option Given) (o : Option Process) → o ≢ None → reslotted given o ≢ None
still_there given o there = by_slots (slots_in given)
  where
    by_slots : (gs : List (ℕ × Option ℕ)) → reslotted_by gs o ≢ None
    by_slots [] = there
    by_slots (g ∷ gs) = not_none _

-- the table of a process after changes of its slots
pub table_over : (m : Given) (o : Option Process) (f : ℕ) → get (table_in (reslotted (Some m) o)) f ≡ or_before (get m f) (get (table_in o) f)
table_over m o f = ap (λ (p : Process). get p.table f) (new_of (entries m) o) ∙ map_over m (table_in o) f

-- what a patch gives stands among what it gives in order
abbrev given_all : List (ℕ × Option ℕ) → List ℕ
given_all es = flat_map (λ g. given_by g.1) es

given_entry : (es : List (ℕ × Option ℕ)) (f d : ℕ) → find nat_cmp f es ≡ Some (Some d) → 0 < times d (given_all es)
given_entry [] f d is = absurd cc
given_entry (e ∷ es) f d is = by_test (given_entry es f d) (eq_by_cmp nat_cmp f e.0) refl
  where
    all : times d (given_all (e ∷ es)) ≡ times d (given_by e.1) + times d (given_all es)
    all = ap (times d) (flat_map-cons (λ (g : ℕ × Option ℕ). given_by g.1) e es) ∙ times_both d (given_by e.1) (given_all es)

    by_test : (find nat_cmp f es ≡ Some (Some d) → 0 < times d (given_all es)) → (b : Bool) → eq_by_cmp nat_cmp f e.0 ≡ b → 0 < times d (given_all (e ∷ es))
    by_test later true at =
        let sum : times d (given_all (e ∷ es)) ≡ times d (given_by e.1) + times d (given_all es) = all in
        let first : e.1 ≡ Some d = some_same e.1 (Some d) (sym (ap (λ b. cond b (Some e.1) (find nat_cmp f es)) at) ∙ is) in
        let one : times d (given_by e.1) ≡ 1 = ap (λ o. times d (given_by o)) first ∙ once_here d in
        omega arith
    by_test later false at =
        let sum : times d (given_all (e ∷ es)) ≡ times d (given_by e.1) + times d (given_all es) = all in
        let rest : 0 < times d (given_all es) = later (sym (ap (λ b. cond b (Some e.1) (find nat_cmp f es)) at) ∙ is) in
        omega arith

pub given_before : (former : Given) (f d : ℕ) → get former f ≡ Some (Some d) → 0 < times d (given_all (entries former))
given_before former f d is = given_entry (entries former) f d (sym (get-entries former f) ∙ is)

-- what all slots that change gave before
former_gave : (patch former : Given) (table : FinMap nat_cmp ℕ) → IsFormer patch table former → (d : ℕ) → giving former d ≡ times d (gave (entries patch) table)
former_gave patch former table was d =
    ap (λ es. times d (given_all es)) (entries_keyed (get table) patch former was) ∙ ap (times d) (by_entries (entries patch))
  where
    by_entries : (es : List (ℕ × Option ℕ)) → given_all (keyed (get table) es) ≡ gave es table
    by_entries [] = refl
    by_entries (e ∷ es) =
        flat_map-cons (λ (g : ℕ × Option ℕ). given_by g.1) (e.0, get table e.0) (keyed (get table) es)
        ∙ ap (λ ds. ds ++ given_all (keyed (get table) es)) (listed_given (get table e.0))
        ∙ ap (λ ds. listed (get table e.0) ++ ds) (by_entries es)
        ∙ sym (flat_map-cons (λ (g : ℕ × Option ℕ). listed (get table g.0)) e es)

-- as many slots give a description as there are notes, at most
giving_few : (patch : Given) → ((f : ℕ) → get patch f ≢ None → f < DESCRIPTORS) → (d : ℕ) → giving patch d ≤ DESCRIPTORS
giving_few patch low d =
    let most : giving patch d ≤ length (entries patch) = by_entries (entries patch) in
    let all : len patch ≡ length (entries patch) = len-entries patch in
    let few : len patch ≤ DESCRIPTORS = few_keys DESCRIPTORS patch (λ f g is. low f (λ none. not_none g (sym is ∙ none))) in
    omega (arith, most, all, few)
  where
    by_entries : (es : List (ℕ × Option ℕ)) → times d (given_all es) ≤ length es
    by_entries [] = let none : times d [] ≡ 0 = refl in omega (arith, none)
    by_entries (e ∷ es) =
        let sum : times d (given_all (e ∷ es)) ≡ times d (given_by e.1) + times d (given_all es) = ap (times d) (flat_map-cons (λ (g : ℕ × Option ℕ). given_by g.1) e es) ∙ times_both d (given_by e.1) (given_all es) in
        let one : times d (given_by e.1) ≤ 1 = subst (λ ds. times d ds ≤ 1) (sym (listed_given e.1)) (listed_once d e.1) in
        let rest : times d (given_all es) ≤ length es = by_entries es in
        omega (arith, sum, one, rest)

-- a process that is there, with its slots changed
pub slots_of : (gs : List (ℕ × Option ℕ)) (p : Process) → reslotted_by gs (Some p) ≡ Some (with_slots gs p)
slots_of [] p = refl
slots_of (g ∷ gs) p = refl

-- The slots of one process change, and the counts of holders with them.
module _ (ps qs : Processes) (pid : ℕ) (patch former : Given) (s t u : Numbers)
    (here : get (numbered qs) pid ≡ reslotted (Some patch) (get (numbered ps) pid)) (others : (q : ℕ) → q ≢ pid → get (numbered qs) q ≡ get (numbered ps) q)
    (count : length qs.list ≡ length ps.list) (bounds : qs.bounds ≡ ps.bounds) (few : length ps.list < 2 ^ 64)
    (living : entries patch ≢ [] → get (numbered ps) pid ≢ None) (was : IsFormer patch (table_in (get (numbered ps) pid)) former)
    (low : (f : ℕ) → get patch f ≢ None → f < DESCRIPTORS) (more : AreHeld (IsMoreBy patch) s t) (less : AreHeld (IsLessBy former) t u) where
  abbrev table : FinMap nat_cmp ℕ
  table = table_in (get (numbered ps) pid)

  holders_now : (d : ℕ) → holders (state_of qs u) d + giving former d ≡ holders (state_of ps s) d + giving patch d
  holders_now d = by_process (get (numbered ps) pid) refl
    where
      gone : giving former d ≡ times d (gave (entries patch) table)
      gone = former_gave patch former table was d

      by_process : (o : Option Process) → get (numbered ps) pid ≡ o → holders (state_of qs u) d + giving former d ≡ holders (state_of ps s) d + giving patch d
      by_process (Some p) is =
          let law : holders (set_process pid (with_slots (entries patch) p) (state_of ps s)) d + times d (gave (entries patch) p.table) ≡ holders (state_of ps s) d + giving patch d =
          held_after (entries patch) (entries_sorted patch) (state_of ps s) pid p is d in
          let same : holders (state_of qs u) d ≡ holders (set_process pid (with_slots (entries patch) p) (state_of ps s)) d =
          openings_change_lem.by_processes (set_process pid (with_slots (entries patch) p) (state_of ps s)) (state_of qs u) changed d in
          let at : times d (gave (entries patch) table) ≡ times d (gave (entries patch) p.table) = ap (λ o. times d (gave (entries patch) (table_in o))) is in
          let former_ones : giving former d ≡ times d (gave (entries patch) table) = gone in
          omega (arith, law, same, at, former_ones)
        where
          changed : numbered qs ≡ insert (numbered ps) pid (with_slots (entries patch) p)
          changed = same_map nat_cmp_total nat_cmp-IsAntisymmetric _ _ (λ q. elim (cases_eq q pid) [
            | inl same ↦ ap (get (numbered qs)) same ∙ here ∙ ap (reslotted (Some patch)) is ∙ slots_of (entries patch) p
                ∙ sym (ap (get (insert (numbered ps) pid (with_slots (entries patch) p))) same ∙ get_same (numbered ps) pid (with_slots (entries patch) p))
            | inr away ↦ others q away ∙ sym (get_other (numbered ps) pid q (with_slots (entries patch) p) away)
          ])
      by_process None is =
          let nothing : giving patch d ≡ 0 = ap (λ es. times d (given_all es)) none in
          let same : holders (state_of qs u) d ≡ holders (state_of ps s) d = openings_change_lem.by_processes (state_of ps s) (state_of qs u) unchanged d in
          let former_ones : giving former d ≡ 0 = gone ∙ ap (λ es. times d (gave es table)) none in
          omega (arith, nothing, same, former_ones)
        where
          by_entries : (es : List (ℕ × Option ℕ)) → entries patch ≡ es → es ≡ []
          by_entries [] e = refl
          by_entries (g ∷ gs) e = absurd (living (λ none. absurd (not_empty (sym e ∙ none))) is)
            where
              not_empty : g ∷ gs ≡ [] → ⊥
              not_empty same = cc

          none : entries patch ≡ []
          none = by_entries (entries patch) refl

          unchanged : numbered qs ≡ numbered ps
          unchanged = same_map nat_cmp_total nat_cmp-IsAntisymmetric _ _ (λ q. elim (cases_eq q pid) [
            | inl same ↦ ap (get (numbered qs)) same ∙ here ∙ ap (λ es. reslotted_by es (get (numbered ps) pid)) none ∙ ap (get (numbered ps)) (sym same)
            | inr away ↦ others q away
          ])

  counted_now : AreLow ps → AreCounted ps s → AreCounted qs u
  counted_now all counted = record {
    openings = λ n file is. counted.openings n file (more.files n file (less.files n file is)) ∙ sym (openings_change_lem.by_descriptions (state_of ps s) (state_of qs u) (less.descriptions ∙ more.descriptions) n);
    holders = λ d opened is. of_holders d opened (less.opened d opened is);
    pipes = λ p pipe is. same_pairs (state_of ps s) (state_of qs u) (less.descriptions ∙ more.descriptions) p pipe.reader pipe.writer (counted.pipes p pipe (more.pipes p pipe (less.pipes p pipe is)));
  }
    where
      of_holders : (d : ℕ) (opened : Opened) → WasHeld (IsLessBy former d) t d opened → opened.holders ≡ holders (state_of qs u) d
      of_holders d opened mid = from_start (more.opened d mid.before mid.held)
        where
          from_start : WasHeld (IsMoreBy patch d) s d mid.before → opened.holders ≡ holders (state_of qs u) d
          from_start start =
              let first : start.before.holders ≡ holders (state_of ps s) d = counted.holders d start.before start.held in
              let bound : holders (state_of ps s) d + DESCRIPTORS < 2 ^ 128 = few_holders ps s d all few in
              let given : giving patch d ≤ DESCRIPTORS = giving_few patch low d in
              let second : mid.before.holders ≡ start.before.holders + giving patch d = start.count (omega (arith, first, bound, given)) in
              let third : opened.holders ≡ mid.before.holders - giving former d = mid.count in
              let law : holders (state_of qs u) d + giving former d ≡ holders (state_of ps s) d + giving patch d = holders_now d in
              omega (arith, first, second, third, law)

  slot_now : (f : ℕ) → get (table_in (get (numbered qs) pid)) f ≡ or_before (get patch f) (get table f)
  slot_now f = ap (λ o. get (table_in o) f) here ∙ table_over patch (get (numbered ps) pid) f

  low_now : AreLow ps → AreLow qs
  low_now all q f d is = elim (cases_eq q pid) [
    | inl same ↦ by_note (get patch f) refl (sym (ap (λ q. get (table_in (get (numbered qs) q)) f) same ∙ slot_now f) ∙ is)
    | inr away ↦ all q f d (ap (λ o. get (table_in o) f) (sym (others q away)) ∙ is)
  ]
    where
      by_note : (g : Option (Option ℕ)) → get patch f ≡ g → or_before (get patch f) (get table f) ≡ Some d → f < DESCRIPTORS
      by_note (Some g) noted gives = low f (λ none. not_none g (sym noted ∙ none))
      by_note None noted gives = all pid f d (sym (ap (λ g. or_before g (get table f)) noted) ∙ gives)

  let_go_now : (f d : ℕ) → get table f ≡ Some d → get (table_in (get (numbered qs) pid)) f ≢ Some d → 0 < times d (given_all (entries former))
  let_go_now f d gave gone = by_note (get patch f) refl
    where
      by_note : (g : Option (Option ℕ)) → get patch f ≡ g → 0 < times d (given_all (entries former))
      by_note (Some g) noted = given_before former f d (was f ∙ ap (mapped (λ _. get table f)) noted ∙ ap (λ o. Some o) gave)
      by_note None noted = absurd (gone (slot_now f ∙ ap (λ g. or_before g (get table f)) noted ∙ gave))

  pub reslotted_whole : IsReslotted pid patch former ps qs s u
  reslotted_whole = record {
    stay = record {
      same = same_store_same s t u more.same less.same;
      descriptions = less.descriptions ∙ more.descriptions;
      reserves = λ n. less.reserves n ∙ more.reserves n;
      count = count;
      bounds = bounds;
      low = low_now;
      counted = counted_now;
    };
    here = here;
    others = others;
    let_go = let_go_now;
  }
