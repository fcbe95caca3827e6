-- The two descriptions of a pipe, and how long pipes get.
use Rattle.std.proofs.Common.{◌≡◌, ◌≢◌, ◌<◌, ◌≤◌, ℕ, ◌+◌, ◌-◌, ◌==◌, ◌&&◌, Bool, true, false, cond, List, [], ◌∷◌, ◌++◌, length, drop, Option, Some, None, refl, sym, ap, ap₂, subst, ◌∙◌, arith, inl, inr, ◌⊎◌, nat_cmp, sum_by, eqb-true, eq-eqb, length-append, length-drop}
use Rattle.std.proofs.lemmas.Bool.{cases_eq, false≢true}
use Rattle.std.proofs.lemmas.List.Sums.{sum_by-cons}
use Rattle.model.specs.FiniteMap.{FinMap, get, values, insert, empty}
use Rattle.model.specs.Limits.{capacity}
use Rattle.model.specs.State.{A_file, A_pipe, Description, Directory, File, Fixed, Inode, Kernel, Kind, Pipe, Process, ends, is_end, kind, kind_of, mapped, pipe_of, pipe_of_inode}
use Rattle.model.specs.Changes.{Edit, Made, Make_directory, Make_file, Make_fixed, Name_file, Unname_file, Unname_directory, Swap, Wipe, Move, Put_bytes, Cut, Take, Append, Set_offset, Set_rights, Open_inode, Make_pipe, Share_slot, Clear_slot, New_process, End_process, all_applied, applied, at_offset, at_start, clear_name, holders, number, openings, set_inode, set_name, to_read, to_write}
use Rattle.model.specs.Effects.{Effect, all_done}
use Rattle.model.proofs.Laws.{get_same, get_other}
use Rattle.call_laws.specs.Fits.{Fits, FitsAll}
use Rattle.call_laws.specs.WellFormed.{CanBeOpened, WellFormed}
use Rattle.call_laws.proofs.Laws.{edit_grows, set_there}
use Rattle.freeing_laws.specs.Pipes.{ArePair, IsShort, PipesKeepTheirEnds, holders_if, is_of, reads, writes}
use Rattle.freeing_laws.specs.Sweep.{AllFit}
use Rattle.freeing_laws.proofs.Openings.{openings_change_lem}
use Rattle.freeing_laws.proofs.Slots.{holders_set}
use Rattle.freeing_laws.proofs.Turns.{opens_some}

stays : (chosen : List ℕ) (k : Kernel) (e : Edit) → Fits chosen k e → (p : ℕ) → kind_of k p ≡ Some A_pipe → kind_of (applied chosen e k) p ≡ Some A_pipe
stays chosen k e f p is = (edit_grows chosen k e f).kinds p A_pipe is

-- a description that comes, or changes, and is no end of p but these
module _ (m : FinMap nat_cmp Description) (p r w d : ℕ) (it : Description)
    (reads_so : is_end reads p (Some it) ≡ true → d ≡ r) (writes_so : is_end writes p (Some it) ≡ true → d ≡ w) (either_so : it.inode ≡ p → (d ≡ r) ⊎ (d ≡ w)) where
  pub pair_inserted : ArePair m p r w → ArePair (insert m d it) p r w
  pair_inserted pair = record {
    reads = λ e is. elim (cases_eq e d) [
      | inl same ↦ same ∙ reads_so (sym (ap (is_end reads p) (ap (get (insert m d it)) same ∙ get_same m d it)) ∙ is)
      | inr away ↦ pair.reads e (sym (ap (is_end reads p) (get_other m d e it away)) ∙ is)
    ];
    writes = λ e is. elim (cases_eq e d) [
      | inl same ↦ same ∙ writes_so (sym (ap (is_end writes p) (ap (get (insert m d it)) same ∙ get_same m d it)) ∙ is)
      | inr away ↦ pair.writes e (sym (ap (is_end writes p) (get_other m d e it away)) ∙ is)
    ];
    either = λ e x is of_p. elim (cases_eq e d) [
      | inl same ↦
          let found : Some it ≡ Some x = sym (ap (get (insert m d it)) same ∙ get_same m d it) ∙ is in
          let here : it.inode ≡ p = ap (inode_or p) found ∙ of_p in
          subst (λ n. (n ≡ r) ⊎ (n ≡ w)) (sym same) (either_so here)
      | inr away ↦ pair.either e x (sym (get_other m d e it away) ∙ is) of_p
    ];
  }
    where
      inode_or : ℕ → Option Description → ℕ
      inode_or n (Some it) = it.inode
      inode_or n None = n

-- one of another inode
not_of : (mode : Description → Bool) (p : ℕ) (it : Description) → it.inode ≢ p → is_end mode p (Some it) ≡ true → ⊥
not_of mode p it away is = by_test (it.inode == p) refl is
  where
    by_test : (b : Bool) → (it.inode == p) ≡ b → (b && mode it) ≡ true → ⊥
    by_test true same is = away (eqb-true it.inode p same)
    by_test false same is = absurd cc

elsewhere : (m : FinMap nat_cmp Description) (p r w d : ℕ) (it : Description) → it.inode ≢ p → ArePair m p r w → ArePair (insert m d it) p r w
elsewhere m p r w d it away = pair_inserted m p r w d it (λ is. absurd (not_of reads p it away is)) (λ is. absurd (not_of writes p it away is)) (λ is. absurd (away is))

other_kind : (k : Kernel) (n p : ℕ) (what : Kind) → kind_of k n ≡ Some what → kind_of k p ≡ Some A_pipe → what ≢ A_pipe → n ≢ p
other_kind k n p what is pipe away same = away (ap (or_kind what) (sym is ∙ ap (kind_of k) same ∙ pipe))
  where
    or_kind : Kind → Option Kind → Kind
    or_kind a (Some b) = b
    or_kind a None = a

new_away : (k : Kernel) (n p : ℕ) → get k.inodes n ≡ None → kind_of k p ≡ Some A_pipe → n ≢ p
new_away k n p none pipe same = absurd (let no : None ≡ Some A_pipe = ap (mapped kind) (sym none) ∙ ap (kind_of k) same ∙ pipe in cc)

keeps : (chosen : List ℕ) (k : Kernel) (e : Edit) → Fits chosen k e → (p r w : ℕ) → kind_of k p ≡ Some A_pipe → ArePair k.descriptions p r w → ArePair (applied chosen e k).descriptions p r w
unfolding applied
keeps chosen k (Make_directory d x i) f p r w is pair = pair
keeps chosen k (Make_file d x i) f p r w is pair = pair
keeps chosen k (Make_fixed d x fixed i) f p r w is pair = pair
keeps chosen k (Name_file d x n) f p r w is pair = pair
keeps chosen k (Unname_file d x n) f p r w is pair = pair
keeps chosen k (Unname_directory d x n) f p r w is pair = pair
keeps chosen k (Move d x e y n replaced) f p r w is pair = pair
keeps chosen k (Swap d x n e y m) f p r w is pair = pair
keeps chosen k (Put_bytes n place bytes before) f p r w is pair = pair
keeps chosen k (Wipe n place count) f p r w is pair = pair
keeps chosen k (Cut n before after) f p r w is pair = pair
keeps chosen k (Take q count) f p r w is pair = pair
keeps chosen k (Append q bytes) f p r w is pair = pair
keeps chosen k (Set_offset d place) f p r w is pair =
    subst (λ (k : Kernel). ArePair k.descriptions p r w) (sym (set_there k d place f.0 f.1))
    (pair_inserted k.descriptions p r w d (at_offset place f.0) (λ h. pair.reads d (ap (is_end reads p) f.1 ∙ h)) (λ h. pair.writes d (ap (is_end writes p) f.1 ∙ h)) (λ h. pair.either d f.0 f.1 h) pair)
keeps chosen k (Set_rights n rights) f p r w is pair = pair
keeps chosen k (Open_inode i inode how q s) can p r w is pair =
    elsewhere k.descriptions p r w (number chosen (Made i)) (at_start (number chosen inode) how) (other_kind k (number chosen inode) p A_file can.kind is (λ h. absurd cc)) pair
keeps chosen k (Make_pipe i q f g) can p r w is pair =
    let n : ℕ = number chosen (Made i) in
    let away : n ≢ p = new_away k n p can.pipe.inode is in
    elsewhere (insert k.descriptions (number chosen (Made (i + 1))) (at_start n to_read)) p r w (number chosen (Made (i + 2))) (at_start n to_write) away
    (elsewhere k.descriptions p r w (number chosen (Made (i + 1))) (at_start n to_read) away pair)
keeps chosen k (Share_slot q f d pipes) can p r w is pair = pair
keeps chosen k (Clear_slot q f pipes) can p r w is pair = pair
keeps chosen k (New_process child parent pipes) can p r w is pair = pair
keeps chosen k (End_process q pipes) can p r w is pair = pair

all_keep : (chosen : List ℕ) (es : List Edit) (k : Kernel) → FitsAll chosen k es → (p r w : ℕ) → kind_of k p ≡ Some A_pipe → ArePair k.descriptions p r w
    → (kind_of (all_applied chosen es k) p ≡ Some A_pipe) × ArePair (all_applied chosen es k).descriptions p r w
all_keep chosen [] k f p r w is pair = (is, pair)
all_keep chosen (e ∷ es) k f p r w is pair = all_keep chosen es (applied chosen e k) f.1 p r w (stays chosen k e f.0 p is) (keeps chosen k e f.0 p r w is pair)

along : (fs : List Effect) (k : Kernel) → AllFit fs k → (p r w : ℕ) → kind_of k p ≡ Some A_pipe → ArePair k.descriptions p r w → ArePair (all_done fs k).descriptions p r w
along [] k f p r w is pair = pair
along (d ∷ fs) k f p r w is pair =
    let one = all_keep d.chosen d.edits k f.0 p r w is pair in
    along fs (all_applied d.chosen d.edits k) f.1 p r w one.0 one.1

-- no description is of what is nothing
none : (k : Kernel) (p r w : ℕ) → WellFormed k → kind_of k p ≡ None → ArePair k.descriptions p r w
none k p r w well nothing = record {
  reads = λ d is. absurd (by_it d reads (get k.descriptions d) refl is);
  writes = λ d is. absurd (by_it d writes (get k.descriptions d) refl is);
  either = λ d it is of_p. absurd (not_open d it is of_p);
}
  where
    not_open : (d : ℕ) (it : Description) → get k.descriptions d ≡ Some it → it.inode ≢ p
    not_open d it is of_p = absurd (subst CanBeOpened (ap (kind_of k) of_p ∙ nothing) (well.descriptions d it is))

    by_it : (d : ℕ) (mode : Description → Bool) (o : Option Description) → get k.descriptions d ≡ o → is_end mode p o ≡ true → ⊥
    by_it d mode (Some it) found is = not_of mode p it (not_open d it found) is
    by_it d mode None found is = absurd cc

made : (chosen : List ℕ) (k : Kernel) (i pid f g : ℕ) → WellFormed k → Fits chosen k (Make_pipe i pid f g)
    → ArePair (applied chosen (Make_pipe i pid f g) k).descriptions (number chosen (Made i)) (number chosen (Made (i + 1))) (number chosen (Made (i + 2)))
unfolding applied
made chosen k i pid f g well can =
    let p : ℕ = number chosen (Made i) in
    let r : ℕ = number chosen (Made (i + 1)) in
    let w : ℕ = number chosen (Made (i + 2)) in
    pair_inserted (insert k.descriptions r (at_start p to_read)) p r w w (at_start p to_write) (λ is. absurd (no_end p is)) (λ is. refl) (λ is. inr refl)
    (pair_inserted k.descriptions p r w r (at_start p to_read) (λ is. refl) (λ is. absurd (no_end p is)) (λ is. inl refl)
    (none k p r w well (ap (mapped kind) can.pipe.inode)))
  where
    no_end : (p : ℕ) → ((p == p) && false) ≡ true → ⊥
    no_end p is = by_test (p == p) is
      where
        by_test : (b : Bool) → (b && false) ≡ true → ⊥
        by_test true is = absurd cc
        by_test false is = absurd cc

-- what counts in a table: an end, where only one description is that end
abbrev as_number : Bool → ℕ
as_number b = cond b 1 0

count_ends : (k : Kernel) (mode : Description → Bool) (p d : ℕ) → ((e : ℕ) → is_end mode p (get k.descriptions e) ≡ true → e ≡ d) → (e : ℕ)
    → as_number (is_end mode p (get k.descriptions e)) ≡ cond (is_end mode p (get k.descriptions d)) (as_number (e == d)) 0
count_ends k mode p d only e = by_tests (is_end mode p (get k.descriptions e)) refl
  where
    by_tests : (b : Bool) → is_end mode p (get k.descriptions e) ≡ b → as_number b ≡ cond (is_end mode p (get k.descriptions d)) (as_number (e == d)) 0
    by_tests true is =
        let same : e ≡ d = only e is in
        let here : is_end mode p (get k.descriptions d) ≡ true = ap (λ n. is_end mode p (get k.descriptions n)) (sym same) ∙ is in
        sym (ap₂ (λ a b. cond a (as_number b) 0) here (eq-eqb e d same))
    by_tests false is = elim (cases_eq e d) [
      | inl same ↦
          let here : is_end mode p (get k.descriptions d) ≡ false = ap (λ n. is_end mode p (get k.descriptions n)) (sym same) ∙ is in
          sym (ap (λ a. cond a (as_number (e == d)) 0) here)
      | inr away ↦ sym (away_none (is_end mode p (get k.descriptions d)) (e == d) refl away)
    ]
      where
        away_none : (a b : Bool) → (e == d) ≡ b → e ≢ d → cond a (as_number b) 0 ≡ 0
        away_none true true is away = absurd (away (eqb-true e d is))
        away_none true false is away = refl
        away_none false b is away = refl

sum_same : {A : Type 0} (f g : A → ℕ) (xs : List A) → ((x : A) → f x ≡ g x) → sum_by f xs ≡ sum_by g xs
sum_same f g [] same = refl
sum_same f g (x ∷ xs) same = sum_by-cons f x xs ∙ ap₂ (λ a b. a + b) (same x) (sum_same f g xs same) ∙ sym (sum_by-cons g x xs)

sum_none : {A : Type 0} (xs : List A) → sum_by (λ (x : A). 0) xs ≡ 0
sum_none [] = refl
sum_none {A} (x ∷ xs) =
    let more : sum_by (λ (x : A). 0) (x ∷ xs) ≡ 0 + sum_by (λ (x : A). 0) xs = sum_by-cons (λ (x : A). 0) x xs in
    let rest : sum_by (λ (x : A). 0) xs ≡ 0 = sum_none xs in
    omega arith

ends_are_holders : (k : Kernel) (mode : Description → Bool) (p d : ℕ) → ((e : ℕ) → is_end mode p (get k.descriptions e) ≡ true → e ≡ d) → ends k p mode ≡ holders_if k mode p d
unfolding ends holders
ends_are_holders k mode p d only =
    sum_same _ _ (values k.processes) (λ process. sum_same _ _ (values process.table) (count_ends k mode p d only))
    ∙ by_test (is_end mode p (get k.descriptions d))
  where
    by_test : (b : Bool) → sum_by (λ (process : Process). sum_by (λ e. cond b (as_number (e == d)) 0) (values process.table)) (values k.processes)
        ≡ cond b (sum_by (λ (process : Process). sum_by (λ e. as_number (e == d)) (values process.table)) (values k.processes)) 0
    by_test true = refl
    by_test false = sum_same _ _ (values k.processes) (λ process. sum_none (values process.table)) ∙ sum_none (values k.processes)

-- an opening by one of the two
opened : (k : Kernel) (p d : ℕ) → is_of p (get k.descriptions d) ≡ true → 0 < openings k p
opened k p d is = by_it (get k.descriptions d) refl is
  where
    by_it : (o : Option Description) → get k.descriptions d ≡ o → is_of p o ≡ true → 0 < openings k p
    by_it (Some it) found of_p = subst (λ n. 0 < openings k n) (eqb-true it.inode p of_p) (opens_some k d it found)
    by_it None found of_p = absurd cc

closed : (k : Kernel) (p r w : ℕ) → ArePair k.descriptions p r w → is_of p (get k.descriptions r) ≡ false → is_of p (get k.descriptions w) ≡ false → openings k p ≡ 0
closed k p r w pair no_reader no_writer = openings_change_lem.unopened k p (λ d it is of_p. by_part d it is of_p (pair.either d it is of_p))
  where
    by_part : (d : ℕ) (it : Description) → get k.descriptions d ≡ Some it → it.inode ≡ p → (d ≡ r) ⊎ (d ≡ w) → ⊥
    by_part d it is of_p (inl same) = false≢true (sym no_reader ∙ ap (λ n. is_of p (get k.descriptions n)) (sym same) ∙ ap (is_of p) is ∙ eq-eqb it.inode p of_p)
    by_part d it is of_p (inr same) = false≢true (sym no_writer ∙ ap (λ n. is_of p (get k.descriptions n)) (sym same) ∙ ap (is_of p) is ∙ eq-eqb it.inode p of_p)

-- how long a pipe is after an edit
set_short : (k : Kernel) (n : ℕ) (new : Inode) → length (pipe_of_inode (Some new)) ≤ capacity → IsShort k → IsShort (set_inode n new k)
set_short k n new low short p = elim (cases_eq p n) [
  | inl same ↦ subst (λ o. length (pipe_of_inode o) ≤ capacity) (sym (ap (get (set_inode n new k).inodes) same ∙ get_same k.inodes n new)) low
  | inr away ↦ subst (λ o. length (pipe_of_inode o) ≤ capacity) (sym (get_other k.inodes n p new away)) (short p)
]

no_bytes : (k : Kernel) → 0 ≤ capacity
no_bytes k = omega arith

one_short : (chosen : List ℕ) (k : Kernel) (e : Edit) → Fits chosen k e → IsShort k → IsShort (applied chosen e k)
unfolding applied
one_short chosen k (Make_directory d x i) f short = set_short (set_inode (number chosen (Made i)) (Directory empty) k) d _ (no_bytes k) (set_short k (number chosen (Made i)) (Directory empty) (no_bytes k) short)
one_short chosen k (Make_file d x i) f short = set_short (set_inode (number chosen (Made i)) (File []) k) d _ (no_bytes k) (set_short k (number chosen (Made i)) (File []) (no_bytes k) short)
one_short chosen k (Make_fixed d x fixed i) f short = set_short (set_inode (number chosen (Made i)) (Fixed fixed) k) d _ (no_bytes k) (set_short k (number chosen (Made i)) (Fixed fixed) (no_bytes k) short)
one_short chosen k (Name_file d x n) f short = set_short k d _ (no_bytes k) short
one_short chosen k (Unname_file d x n) f short = set_short k d _ (no_bytes k) short
one_short chosen k (Unname_directory d x n) f short = set_short k d _ (no_bytes k) short
one_short chosen k (Move d x e y n replaced) f short = set_short (clear_name d x k) e _ (no_bytes k) (set_short k d _ (no_bytes k) short)
one_short chosen k (Swap d x n e y m) f short = set_short (set_name d x m k) e _ (no_bytes k) (set_short k d _ (no_bytes k) short)
one_short chosen k (Put_bytes n place bytes before) f short = set_short k n _ (no_bytes k) short
one_short chosen k (Wipe n place count) f short = set_short k n _ (no_bytes k) short
one_short chosen k (Cut n before after) f short = set_short k n _ (no_bytes k) short
one_short chosen k (Take p count) f short =
    set_short k p (Pipe (drop count (pipe_of k p))) (let less : length (drop count (pipe_of k p)) ≡ length (pipe_of k p) - count = length-drop count (pipe_of k p) in let low : length (pipe_of k p) ≤ capacity = short p in omega arith) short
one_short chosen k (Append p bytes) f short =
    set_short k p (Pipe (pipe_of k p ++ bytes)) (let more : length (pipe_of k p ++ bytes) ≡ length (pipe_of k p) + length bytes = length-append (pipe_of k p) bytes in let low : length (pipe_of k p) + length bytes ≤ capacity = f.1 in omega arith) short
one_short chosen k (Set_offset d place) f short = subst IsShort (sym (set_there k d place f.0 f.1)) short
one_short chosen k (Set_rights n rights) f short = short
one_short chosen k (Open_inode i inode how q s) can short = short
one_short chosen k (Make_pipe i q f g) can short = set_short k (number chosen (Made i)) (Pipe []) (no_bytes k) short
one_short chosen k (Share_slot q f d pipes) can short = short
one_short chosen k (Clear_slot q f pipes) can short = short
one_short chosen k (New_process child parent pipes) can short = short
one_short chosen k (End_process q pipes) can short = short

all_short : (chosen : List ℕ) (es : List Edit) (k : Kernel) → FitsAll chosen k es → IsShort k → IsShort (all_applied chosen es k)
all_short chosen [] k f short = short
all_short chosen (e ∷ es) k f short = all_short chosen es (applied chosen e k) f.1 (one_short chosen k e f.0 short)

short : (fs : List Effect) (k : Kernel) → AllFit fs k → IsShort k → IsShort (all_done fs k)
short [] k f low = low
short (d ∷ fs) k f low = short fs (all_applied d.chosen d.edits k) f.1 (all_short d.chosen d.edits k f.0 low)

pub pipes_keep_their_ends_lem : PipesKeepTheirEnds
pipes_keep_their_ends_lem = record {
  stays = stays;
  keeps = keeps;
  along = along;
  made = made;
  none = none;
  reading = λ k p r w pair. ends_are_holders k reads p r pair.reads;
  writing = λ k p r w pair. ends_are_holders k writes p w pair.writes;
  opened = opened;
  closed = closed;
  holders = λ k pid d process. holders_set k pid process d;
  short = short;
}
