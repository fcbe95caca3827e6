-- The slots of processes: what is kept of one of them, and the table that its changes leave.
use Rattle.std.proofs.Common.{◌≡◌, ◌≢◌, ℕ, zero, suc, ◌<◌, Bool, true, false, cond, T, ◌&&◌, List, [], ◌∷◌, ◌++◌, length, get_or, set, take, drop, Option, Some, None, option_map, Ordering, Less, Equal, Greater, nat_cmp, is_eq, is_lt, refl, sym, ap, ◌∙◌, arith, inl, inr, ◌==◌, if◌then◌else◌}
use Rattle.std.proofs.Math.Seq.{take-append_seam}
use Rattle.std.specs.FinMap.Entries.{below_all}
use Rattle.std.specs.Cmp.{nat_cmp_total}
use Rattle.std.proofs.lemmas.Bool.{cases_eq, eq-eqb, ne_eqb}
use Rattle.std.proofs.lemmas.Bool.Decides.{eqb_tells}
use Rattle.model.specs.FiniteMap.{FinMap, empty, entries, entries_sorted, entries-empty, get, get-entries, insert, find, is_sorted, same_map, nat_cmp-IsAntisymmetric}
use Rattle.model.specs.State.{Process}
use Rattle.model.specs.Changes.{or_new, with_slot, without_slot}
use Rattle.model.proofs.Laws.{get_other, get_same, tied, untied}
use Rattle.fdtable.specs.Patches.{Given, IsLaid, laid_at, or_before}
use Rattle.fdtable.proofs.Laws.{laid_other, laid_same}
use Rattle.notes.specs.Patches.{kept_at, reslotted, reslotted_by, slots_over, with_slots}
use Rattle.notes.specs.Openings.{AtSlots, SameSlots, slot_noted}

abbrev pub Entries : Type 0
Entries = List (ℕ × Given)

-- no process before this place is this one
pub record NoneBefore (es : Entries) (pid : ℕ) (i : ℕ) : Type 0 where
  pub others : (j : ℕ) → j < i → (get_or es j (0, empty)).0 ≢ pid

kept_first : (e : ℕ × Given) (es : Entries) (q : ℕ) → q ≡ e.0 → kept_at (e ∷ es) q ≡ Some e.1
kept_first e es q is = tied q e.0 (Some e.1) (kept_at es q) is

kept_later : (e : ℕ × Given) (es : Entries) (q : ℕ) → q ≢ e.0 → kept_at (e ∷ es) q ≡ kept_at es q
kept_later e es q away = untied q e.0 (Some e.1) (kept_at es q) away

none_later : (e : ℕ × Given) (es : Entries) (pid i : ℕ) → NoneBefore (e ∷ es) pid (suc i) → NoneBefore es pid i
none_later e es pid i none = record { others = λ j low. none.others (suc j) (omega arith) }

-- what stands at the first place of the process is kept of it
pub kept_here : (es : Entries) (pid i : ℕ) → NoneBefore es pid i → i < length es → (get_or es i (0, empty)).0 ≡ pid → kept_at es pid ≡ Some (get_or es i (0, empty)).1
kept_here [] pid i none low is = absurd (omega arith)
kept_here (e ∷ es) pid zero none low is = kept_first e es pid (sym is)
kept_here (e ∷ es) pid (suc i) none low is =
    kept_later e es pid (λ same. none.others 0 (omega arith) (sym same)) ∙ kept_here es pid i (none_later e es pid i none) (omega arith) is

-- nothing is, where it stands nowhere
pub kept_nowhere : (es : Entries) (pid : ℕ) → NoneBefore es pid (length es) → kept_at es pid ≡ None
kept_nowhere [] pid none = refl
kept_nowhere (e ∷ es) pid none =
    kept_later e es pid (λ same. none.others 0 (omega arith) (sym same)) ∙ kept_nowhere es pid (none_later e es pid (length es) none)

-- that place changes
pub set_here : (es : Entries) (pid i : ℕ) (w : Given) → NoneBefore es pid i → i < length es → kept_at (set es i (pid, w)) pid ≡ Some w
set_here [] pid i w none low = absurd (omega arith)
set_here (e ∷ es) pid zero w none low = kept_first (pid, w) es pid refl
set_here (e ∷ es) pid (suc i) w none low =
    kept_later e (set es i (pid, w)) pid (λ same. none.others 0 (omega arith) (sym same)) ∙ set_here es pid i w (none_later e es pid i none) (omega arith)

pub set_others : (es : Entries) (pid i : ℕ) (w : Given) → (get_or es i (0, empty)).0 ≡ pid → (q : ℕ) → q ≢ pid → kept_at (set es i (pid, w)) q ≡ kept_at es q
set_others [] pid i w is q away = refl
set_others (e ∷ es) pid zero w is q away = kept_later (pid, w) es q away ∙ sym (kept_later e es q (λ same. away (same ∙ is)))
set_others (e ∷ es) pid (suc i) w is q away = ap (cond (is_eq (nat_cmp q e.0)) (Some e.1)) (set_others es pid i w is q away)

-- a descriptor is noted of one process
pub noted_in : (es now : Entries) (pid f : ℕ) (given : Option ℕ) (old : Given) → kept_at es pid ≡ Some old → kept_at now pid ≡ Some (insert old f given) → ((q : ℕ) → q ≢ pid → kept_at now q ≡ kept_at es q)
    → (q : ℕ) → kept_at now q ≡ (if q == pid then option_map (λ g. insert g f given) (kept_at es q) else kept_at es q)
noted_in es now pid f given old was here others q = elim (eqb_tells q pid) [
  | inl t ↦ ap (kept_at now) t.1 ∙ here
      ∙ sym (ap (λ b. if b then option_map (λ (g : Given). insert g f given) (kept_at es q) else kept_at es q) t.0 ∙ ap (λ q. option_map (λ (g : Given). insert g f given) (kept_at es q)) t.1
      ∙ ap (option_map (λ (g : Given). insert g f given)) was)
  | inr t ↦ others q t.1 ∙ sym (ap (λ b. if b then option_map (λ (g : Given). insert g f given) (kept_at es q) else kept_at es q) t.0)
]

-- laid on top one by one, the notes give what the map of them gives
and_left : (a b : Bool) → T (a && b) → T a
and_left true b h = tt
and_left false b h = h

and_right : (a b : Bool) → T (a && b) → T b
and_right true b h = h
and_right false b h = absurd h

less_apart : (r : Ordering) → T (is_lt r) → is_eq r ≡ false
less_apart Less h = refl
less_apart Equal h = absurd h
less_apart Greater h = absurd h

absent_below : (k : ℕ) (gs : List (ℕ × Option ℕ)) → T (below_all nat_cmp k gs) → find nat_cmp k gs ≡ None
absent_below k [] h = refl
absent_below k (g ∷ gs) h =
    ap (λ b. cond b (Some g.1) (find nat_cmp k gs)) (less_apart (nat_cmp k g.0) (and_left (is_lt (nat_cmp k g.0)) (below_all nat_cmp k gs) h))
    ∙ absent_below k gs (and_right (is_lt (nat_cmp k g.0)) (below_all nat_cmp k gs) h)

find_over : (gs : List (ℕ × Option ℕ)) (table : FinMap nat_cmp ℕ) (q : ℕ) → T (is_sorted nat_cmp gs) → get (slots_over gs table) q ≡ or_before (find nat_cmp q gs) (get table q)
find_over [] table q rising = refl
find_over (g ∷ gs) table q rising =
    find_over gs (laid_at g.0 (Some g.1) table) q (and_right (below_all nat_cmp g.0 gs) (is_sorted nat_cmp gs) rising)
    ∙ elim (cases_eq q g.0) [
      | inl e ↦
          ap (λ o. or_before o (get (laid_at g.0 (Some g.1) table) q)) (ap (λ q. find nat_cmp q gs) e ∙ absent_below g.0 gs (and_left (below_all nat_cmp g.0 gs) (is_sorted nat_cmp gs) rising))
          ∙ ap (get (laid_at g.0 (Some g.1) table)) e ∙ laid_same g.0 (Some g.1) table ∙ sym (ap (λ o. or_before o (get table q)) (tied q g.0 (Some g.1) (find nat_cmp q gs) e))
      | inr away ↦
          ap (or_before (find nat_cmp q gs)) (laid_other g.0 (Some g.1) table q away)
          ∙ sym (ap (λ o. or_before o (get table q)) (untied q g.0 (Some g.1) (find nat_cmp q gs) away))
    ]

pub map_over : (m : Given) (table : FinMap nat_cmp ℕ) (q : ℕ) → get (slots_over (entries m) table) q ≡ or_before (get m q) (get table q)
map_over m table q = find_over (entries m) table q (entries_sorted m) ∙ ap (λ o. or_before o (get table q)) (sym (get-entries m q))

-- what is laid on top is the table with the notes
pub over_is : (m : Given) (table after : FinMap nat_cmp ℕ) → IsLaid m table after → after ≡ slots_over (entries m) table
over_is m table after laid = same_map nat_cmp_total nat_cmp-IsAntisymmetric after (slots_over (entries m) table) (λ q. laid q ∙ sym (map_over m table q))

-- one note more is one change more
pub over_insert : (m : Given) (f : ℕ) (given : Option ℕ) (table : FinMap nat_cmp ℕ) → slots_over (entries (insert m f given)) table ≡ laid_at f (Some given) (slots_over (entries m) table)
over_insert m f given table = same_map nat_cmp_total nat_cmp-IsAntisymmetric _ _ (λ q.
    map_over (insert m f given) table q ∙ elim (cases_eq q f) [
      | inl e ↦
          ap (λ o. or_before o (get table q)) (ap (get (insert m f given)) e ∙ get_same m f given)
          ∙ sym (ap (get (laid_at f (Some given) (slots_over (entries m) table))) e ∙ laid_same f (Some given) (slots_over (entries m) table))
      | inr away ↦
          ap (λ o. or_before o (get table q)) (get_other m f q given away) ∙ sym (map_over m table q)
          ∙ sym (laid_other f (Some given) (slots_over (entries m) table) q away)
    ])

-- the process after changes of its slots, were it new before
pub new_of : (gs : List (ℕ × Option ℕ)) (o : Option Process) → or_new (reslotted_by gs o) ≡ with_slots gs (or_new o)
new_of [] o = refl
new_of (g ∷ gs) o = refl

-- it is there, if anything is noted
by_notes : (gs : List (ℕ × Option ℕ)) (f : ℕ) (given : Option ℕ) (o : Option Process) → find nat_cmp f gs ≡ Some given → reslotted_by gs o ≡ Some (with_slots gs (or_new o))
by_notes [] f given o is = absurd cc
by_notes (g ∷ gs) f given o is = refl

pub noted_over : (m : Given) (f : ℕ) (given : Option ℕ) (o : Option Process) → reslotted (Some (insert m f given)) o ≡ slot_noted f given (reslotted (Some m) o)
noted_over m f given o =
    by_notes (entries (insert m f given)) f given o (sym (get-entries (insert m f given) f) ∙ get_same m f given)
    ∙ ap (λ t. Some (record (or_new o) { table = t })) (over_insert m f given (or_new o).table) ∙ by_given given
  where
    by_given : (given : Option ℕ) → Some (record (or_new o) { table = laid_at f (Some given) (slots_over (entries m) (or_new o).table) }) ≡ slot_noted f given (reslotted (Some m) o)
    by_given (Some d) = ap (λ p. Some (with_slot f d p)) (sym (new_of (entries m) o))
    by_given None = ap (λ p. Some (without_slot f p)) (sym (new_of (entries m) o))

-- the table of the process is the one that is laid on top
pub laid_slots : (kept : Option Given) (m : Given) (stored after : FinMap nat_cmp ℕ) → Some m ≡ kept → IsLaid m stored after → (o : Option Process) → (or_new o).table ≡ stored → after ≡ (or_new (reslotted kept o)).table
laid_slots kept m stored after is laid o of =
    over_is m stored after laid ∙ ap (slots_over (entries m)) (sym of) ∙ sym (ap (λ p. p.table) (new_of (entries m) o)) ∙ ap (λ k. (or_new (reslotted k o)).table) is

-- the notes laid on top of a table
pub over_laid : (m : Given) (table : FinMap nat_cmp ℕ) → IsLaid m table (slots_over (entries m) table)
over_laid m table = map_over m table

-- a descriptor of the process gives what is noted of it, or else what it gave
pub given_slots : (kept : Option Given) (m : Given) (f : ℕ) (noted : Option (Option ℕ)) (stored : Option ℕ) → Some m ≡ kept → noted ≡ get m f → (o : Option Process) → get (or_new o).table f ≡ stored → or_before noted stored ≡ get (or_new (reslotted kept o)).table f
given_slots kept m f noted stored is look o of =
    ap (λ n. or_before n stored) look ∙ ap (or_before (get m f)) (sym of) ∙ sym (map_over m (or_new o).table f)
    ∙ sym (ap (λ (p : Process). get p.table f) (new_of (entries m) o)) ∙ ap (λ k. get (or_new (reslotted k o)).table f) is

-- no notes change nothing
pub none_over : (o : Option Process) → reslotted (Some empty) o ≡ o
none_over o = ap (λ gs. reslotted_by gs o) (entries-empty nat_cmp)

pub something : {X : Type 0} (o : Option X) (x : X) → o ≡ Some x → o ≢ None
something o x is none = absurd cc

-- what noting one descriptor changes
pub noted_slots : (es now : Entries) (pid f : ℕ) (given : Option ℕ) → kept_at es pid ≢ None → ((q : ℕ) → kept_at now q ≡ (if q == pid then option_map (λ g. insert g f given) (kept_at es q) else kept_at es q)) → AtSlots pid f given es now
noted_slots es now pid f given place is = record { here = λ o. by_kept o (kept_at es pid) refl; others = others; places = places }
  where
    here : (m : Given) → kept_at es pid ≡ Some m → kept_at now pid ≡ Some (insert m f given)
    here m e =
        is pid ∙ ap (λ b. if b then option_map (λ (g : Given). insert g f given) (kept_at es pid) else kept_at es pid) (eq-eqb pid pid refl)
        ∙ ap (option_map (λ (g : Given). insert g f given)) e

    by_kept : (o : Option Process) (old : Option Given) → kept_at es pid ≡ old → reslotted (kept_at now pid) o ≡ slot_noted f given (reslotted (kept_at es pid) o)
    by_kept o None e = absurd (place e)
    by_kept o (Some m) e = ap (λ k. reslotted k o) (here m e) ∙ noted_over m f given o ∙ ap (λ k. slot_noted f given (reslotted k o)) (sym e)

    others : (q : ℕ) → q ≢ pid → kept_at now q ≡ kept_at es q
    others q away = is q ∙ ap (λ b. if b then option_map (λ (g : Given). insert g f given) (kept_at es q) else kept_at es q) (ne_eqb q pid away)

    there : (old : Option Given) → kept_at es pid ≡ old → kept_at now pid ≢ None
    there None e = absurd (place e)
    there (Some m) e = something (kept_at now pid) (insert m f given) (here m e)

    places : (q : ℕ) → kept_at es q ≢ None → kept_at now q ≢ None
    places q some = elim (cases_eq q pid) [
      | inl e ↦ λ none. there (kept_at es pid) refl (ap (kept_at now) (sym e) ∙ none)
      | inr away ↦ λ none. some (sym (others q away) ∙ none)
    ]

-- a place at the end for a process that had none
pub pushed_same : (es : Entries) (pid : ℕ) (w : Given) → kept_at es pid ≡ None → kept_at (es ++ (pid, w) ∷ []) pid ≡ Some w
pushed_same [] pid w none = kept_first (pid, w) [] pid refl
pushed_same (e ∷ es) pid w none = elim (cases_eq pid e.0) [
  | inl same ↦ absurd (something (kept_at (e ∷ es) pid) e.1 (kept_first e es pid same) none)
  | inr away ↦ kept_later e (es ++ (pid, w) ∷ []) pid away ∙ pushed_same es pid w (sym (kept_later e es pid away) ∙ none)
]

pub pushed_other : (es : Entries) (pid : ℕ) (w : Given) (q : ℕ) → q ≢ pid → kept_at (es ++ (pid, w) ∷ []) q ≡ kept_at es q
pushed_other [] pid w q away = kept_later (pid, w) [] q away
pushed_other (e ∷ es) pid w q away = ap (cond (is_eq (nat_cmp q e.0)) (Some e.1)) (pushed_other es pid w q away)

pub placed_slots : (es now : Entries) (pid : ℕ) (w : Given) → w ≡ empty → kept_at es pid ≡ None → now ≡ es ++ (pid, w) ∷ [] → SameSlots es now
placed_slots es now pid w is none grown = record {
  each = λ q o. ap (λ now. reslotted (kept_at now q) o) grown ∙ elim (cases_eq q pid) [
    | inl e ↦
        ap (λ q. reslotted (kept_at (es ++ (pid, w) ∷ []) q) o) e ∙ ap (λ k. reslotted k o) (pushed_same es pid w none) ∙ ap (λ w. reslotted (Some w) o) is
        ∙ none_over o ∙ sym (ap (λ q. reslotted (kept_at es q) o) e ∙ ap (λ k. reslotted k o) none)
    | inr away ↦ ap (λ k. reslotted k o) (pushed_other es pid w q away)
  ];
  places = λ q some gone. elim (cases_eq q pid) [
    | inl e ↦ some (ap (kept_at es) e ∙ none)
    | inr away ↦ some (sym (ap (λ now. kept_at now q) grown ∙ pushed_other es pid w q away) ∙ gone)
  ];
}

pub placed_there : (es now : Entries) (pid : ℕ) (w : Given) → kept_at es pid ≡ None → now ≡ es ++ (pid, w) ∷ [] → kept_at now pid ≢ None
placed_there es now pid w none grown = something (kept_at now pid) w (ap (λ now. kept_at now pid) grown ∙ pushed_same es pid w none)

-- what was written through the slice of a list is the list
pub written : (n : ℕ) (ws xs : Entries) → n ≡ length ws → take n (ws ++ drop (length ws) xs) ≡ ws
written n ws xs is = ap (λ n. take n (ws ++ drop (length ws) xs)) is ∙ take-append_seam ws (drop (length ws) xs)
