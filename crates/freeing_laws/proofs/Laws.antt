-- To free what edits lost is to tidy: after one edit, after many, and between calls.
use Rattle.std.proofs.Common.{◌≡◌, ◌≢◌, ℕ, ◌+◌, ◌<◌, Bool, true, false, cond, List, [], ◌∷◌, ◌++◌, None, refl, sym, ap, subst, ◌∙◌, arith, ◌⊎◌, inl, inr, sum_by, ◌≤◌, ◌==◌, nat_lt, ltb-true, eqb-true, Some}
use Rattle.std.specs.Cmp.{nat_cmp_total}
use Rattle.model.specs.State.{A_directory, Description, kind_of, links, Kernel}
use Rattle.model.specs.Changes.{Unname_file, Unname_directory, Move, openings, is_reached, Edit, news, applied, all_applied, is_held, tidy}
use Rattle.model.specs.FiniteMap.{get}
use Rattle.model.specs.Steps.{edits}
use Rattle.call_laws.specs.WellFormed.{CanBeOpened, WellFormed}
use Rattle.call_laws.proofs.Laws.{sum-zero, all-mapped, get_retained, not_counted, either_of, reached, get_tidy, well_stays, all_well, well_tidy, nowhere_tidy, alike_tidied, tidied_alike, stays_alike, alive_tidy, unset, fits, calls_are_lawful_lem}
use Rattle.call_laws.specs.CallLaws.{IsReady, changed}
use Rattle.call_laws.specs.Fits.{Fits, FitsAll}
use Rattle.freeing_laws.specs.Counts.{named, unnamed, opened, EditCounts, times}
use Rattle.model.specs.Effects.{Effect, all_done}
use Rattle.freeing_laws.specs.Sweep.{loses, Lost, AllFit, lost_along, nothing, both, lost_by, all_lost, swept, freed, all_freed, FitsFreed, MadeCall, called, all_called, all_changed, AreReady, AreSet, IsTidied, SweepIsTidy}
use Rattle.freeing_laws.proofs.Times.{Has, times_append, has_left}
use Rattle.freeing_laws.proofs.Freeing.{Covers, unreached_bare, parents_freed, covered_is_tidy}
use Rattle.freeing_laws.proofs.Counts.{counts_change}
use Rattle.freeing_laws.proofs.Losing.{edit_covers, edit_comes}
use Rattle.freeing_laws.proofs.CallsLose.{OnlyLastLoses, loses_nothing, only_last}
use Rattle.freeing_laws.proofs.Turns.{description_unseen, inode_unseen, turned_is_tidy}

-- what the crates above cite besides

-- rights are set of inodes that are there
are_set : (k : Kernel) → WellFormed k → AreSet k
are_set k well n none = unset k n well none

-- longer lists cover too
wider : (k : Kernel) (lost more : Lost) → ((d : ℕ) → Has lost.descriptions d → Has more.descriptions d) → ((n : ℕ) → Has lost.inodes n → Has more.inodes n) → Covers lost k → Covers more k
wider k lost more ds ns covers = record {
  descriptions = λ d there. elim (covers.descriptions d there) [ inl held ↦ inl held | inr has ↦ inr (ds d has) ];
  inodes = λ n there. elim (covers.inodes n there) [ inl is ↦ inl is | inr has ↦ inr (ns n has) ];
}

pub has_regrouped : (n : ℕ) (a b c : List ℕ) → Has ((a ++ b) ++ c) n → Has (a ++ (b ++ c)) n
has_regrouped n a b c has =
    let p : times n ((a ++ b) ++ c) ≡ times n (a ++ b) + times n c = times_append n (a ++ b) c in
    let q : times n (a ++ b) ≡ times n a + times n b = times_append n a b in
    let r : times n (a ++ (b ++ c)) ≡ times n a + times n (b ++ c) = times_append n a (b ++ c) in
    let s : times n (b ++ c) ≡ times n b + times n c = times_append n b c in
    let some : 0 < times n ((a ++ b) ++ c) = has in
    omega arith

-- in a tidied state all is led to
pub nothing_lost : (k : Kernel) → tidy k ≡ k → Covers nothing k
unfolding tidy
nothing_lost k tidied = record { descriptions = λ d there. held d there (is_held k d) refl; inodes = λ n there. kept n there (reached k n) refl }
  where
    held : (d : ℕ) → get k.descriptions d ≢ None → (b : Bool) → is_held k d ≡ b → (is_held k d ≡ true) ⊎ Has [] d
    held d there true e = inl e
    held d there false e = absurd (there (ap (λ s. get s.descriptions d) (sym tidied) ∙ get_retained k.descriptions (is_held k) d ∙ ap (λ b. cond b (get k.descriptions d) None) e))

    kept : (n : ℕ) → get k.inodes n ≢ None → (b : Bool) → reached k n ≡ b → (reached k n ≡ true) ⊎ Has [] n
    kept n there true e = inl e
    kept n there false e = absurd (there (ap (λ s. get s.inodes n) (sym tidied) ∙ get_tidy k n ∙ ap (λ b. cond b (get k.inodes n) None) e))

one_covers : (chosen : List ℕ) (k : Kernel) (e : Edit) (lost : Lost) → Fits chosen k e → Covers lost k → Covers (both lost (lost_by k e)) (applied chosen e k)
one_covers chosen k e lost f covers = edit_covers chosen k e lost (counts_change chosen k e f) (edit_comes chosen k e f (counts_change chosen k e f)) covers

all_cover : (chosen : List ℕ) (es : List Edit) (k : Kernel) (lost : Lost) → FitsAll chosen k es → Covers lost k → Covers (both lost (all_lost chosen es k)) (all_applied chosen es k)
all_cover chosen [] k lost f covers = wider k lost (both lost nothing) (λ d has. has_left d lost.descriptions [] has) (λ n has. has_left n lost.inodes [] has) covers
all_cover chosen (e ∷ es) k lost f covers =
    let now : Lost = lost_by k e in
    let rest : Lost = all_lost chosen es (applied chosen e k) in
    wider (all_applied chosen es (applied chosen e k)) (both (both lost now) rest) (both lost (both now rest))
    (λ d has. has_regrouped d lost.descriptions now.descriptions rest.descriptions has) (λ n has. has_regrouped n lost.inodes now.inodes rest.inodes has)
    (all_cover chosen es (applied chosen e k) (both lost now) f.1 (one_covers chosen k e lost f.0 covers))

one : (chosen : List ℕ) (k : Kernel) (e : Edit) → IsTidied k → Fits chosen k e → freed chosen e k ≡ tidy (applied chosen e k)
one chosen k e t f = covered_is_tidy (lost_by k e) (applied chosen e k) (well_stays chosen k e t.well f).parents (are_set (applied chosen e k) (well_stays chosen k e t.well f)) (one_covers chosen k e nothing f (nothing_lost k t.tidied))

in_a_row : (chosen : List ℕ) (k : Kernel) (es : List Edit) → IsTidied k → FitsAll chosen k es → swept (all_lost chosen es k) (all_applied chosen es k) ≡ tidy (all_applied chosen es k)
in_a_row chosen k es t f = covered_is_tidy (all_lost chosen es k) (all_applied chosen es k) (all_well chosen es k t.well f).parents (are_set (all_applied chosen es k) (all_well chosen es k t.well f)) (all_cover chosen es k nothing f (nothing_lost k t.tidied))

effects_cover : (fs : List Effect) (k : Kernel) (lost : Lost) → AllFit fs k → Covers lost k → Covers (both lost (lost_along fs k)) (all_done fs k)
effects_cover [] k lost f covers = wider k lost (both lost nothing) (λ d has. has_left d lost.descriptions [] has) (λ n has. has_left n lost.inodes [] has) covers
effects_cover (e ∷ fs) k lost f covers =
    let after : Kernel = all_applied e.chosen e.edits k in
    let now : Lost = all_lost e.chosen e.edits k in
    let rest : Lost = lost_along fs after in
    wider (all_done fs after) (both (both lost now) rest) (both lost (both now rest))
    (λ d has. has_regrouped d lost.descriptions now.descriptions rest.descriptions has) (λ n has. has_regrouped n lost.inodes now.inodes rest.inodes has)
    (effects_cover fs after (both lost now) f.1 (all_cover e.chosen e.edits k lost f.0 covers))

effects_well : (fs : List Effect) (k : Kernel) → WellFormed k → AllFit fs k → WellFormed (all_done fs k)
effects_well [] k well f = well
effects_well (e ∷ fs) k well f = effects_well fs (all_applied e.chosen e.edits k) (all_well e.chosen e.edits k well f.0) f.1

at_end : (k : Kernel) (fs : List Effect) (more : Lost) → IsTidied k → AllFit fs k → swept (both (lost_along fs k) more) (all_done fs k) ≡ tidy (all_done fs k)
at_end k fs more t f =
    let lost : Lost = lost_along fs k in
    covered_is_tidy (both lost more) (all_done fs k) (effects_well fs k t.well f).parents (are_set (all_done fs k) (effects_well fs k t.well f))
    (wider (all_done fs k) lost (both lost more) (λ d has. has_left d lost.descriptions more.descriptions has) (λ n has. has_left n lost.inodes more.inodes has) (effects_cover fs k nothing f (nothing_lost k t.tidied)))

tidy_twice : (k : Kernel) → WellFormed k → tidy (tidy k) ≡ tidy k
tidy_twice k well = alike_tidied k (tidy k) (tidied_alike k well)

is_tidied : (k : Kernel) → WellFormed k → IsTidied (tidy k)
is_tidied k well = record { well = well_tidy k well; tidied = tidy_twice k well }

-- a state from which nothing was freed, and that with all freed
along : (chosen : List ℕ) (es : List Edit) (loose now : Kernel) → WellFormed loose → now ≡ tidy loose → FitsAll chosen loose es → FitsFreed chosen now es → all_freed chosen es now ≡ tidy (all_applied chosen es loose)
along chosen [] loose now well is f g = is
along chosen (e ∷ es) loose now well is f g =
    let later : tidy (applied chosen e (tidy loose)) ≡ tidy (applied chosen e loose) = alike_tidied (applied chosen e loose) (applied chosen e (tidy loose))
    (stays_alike chosen loose (tidy loose) e (tidied_alike loose well) f.0 (subst (λ s. Fits chosen s e) is g.0)) in
    let step : freed chosen e now ≡ tidy (applied chosen e loose) = one chosen now e (subst IsTidied (sym is) (is_tidied loose well)) g.0 ∙ ap (λ s. tidy (applied chosen e s)) is ∙ later in
    along chosen es (applied chosen e loose) (freed chosen e now) (well_stays chosen loose e well f.0) step f.1 g.1

ready_tidied : (k : Kernel) (c : MadeCall) → IsReady WellFormed k c.pid c.call c.chosen → IsReady WellFormed (tidy k) c.pid c.call c.chosen
ready_tidied k c ready =
    let same : edits (tidy k) c.pid c.call ≡ edits k c.pid c.call = (calls_are_lawful_lem.tidy_unseen k c.pid c.call ready.well).edits in
    record {
      well = well_tidy k ready.well;
      alive = alive_tidy k c.pid ready.alive;
      numbers = record {
        count = ready.numbers.count ∙ ap (sum_by news) (sym same);
        unused = all-mapped c.chosen (λ n h. nowhere_tidy k n h) ready.numbers.unused;
        different = ready.numbers.different;
      };
    }

along_calls : (cs : List MadeCall) (loose now : Kernel) → WellFormed loose → now ≡ tidy loose → AreReady cs loose → all_called cs now ≡ tidy (all_changed cs loose)
along_calls [] loose now well is ready = is
along_calls (c ∷ cs) loose now well is ready =
    let same : edits (tidy loose) c.pid c.call ≡ edits loose c.pid c.call = (calls_are_lawful_lem.tidy_unseen loose c.pid c.call well).edits in
    let first : called c (tidy loose) ≡ tidy (changed (tidy loose) c.pid c.call c.chosen) = in_a_row c.chosen (tidy loose) (edits (tidy loose) c.pid c.call) (is_tidied loose well) (fits (tidy loose) c.pid c.call c.chosen (ready_tidied loose c ready.0)) in
    let later : tidy (changed (tidy loose) c.pid c.call c.chosen) ≡ tidy (changed loose c.pid c.call c.chosen) = ap (λ es. tidy (all_applied c.chosen es (tidy loose))) same ∙ calls_are_lawful_lem.tidy_later loose c.pid c.call c.chosen ready.0 in
    along_calls cs (changed loose c.pid c.call c.chosen) (called c now) (calls_are_lawful_lem.well_after loose c.pid c.call c.chosen ready.0) (ap (called c) is ∙ first ∙ later) ready.1

-- an edit that loses nothing leaves nothing to free
keeps_all : (chosen : List ℕ) (k : Kernel) (e : Edit) → loses e ≡ false → freed chosen e k ≡ applied chosen e k
keeps_all chosen k e lasts = ap (λ lost. swept lost (applied chosen e k)) (loses_nothing k e lasts)

fits_freed : (chosen : List ℕ) (es : List Edit) (k : Kernel) → OnlyLastLoses es → FitsAll chosen k es → FitsFreed chosen k es
fits_freed chosen [] k only f = tt
fits_freed chosen (e ∷ []) k only f = (f.0, tt)
fits_freed chosen (e ∷ next ∷ es) k only f = (f.0, subst (λ s. FitsFreed chosen s (next ∷ es)) (sym (keeps_all chosen k e only.0)) (fits_freed chosen (next ∷ es) (applied chosen e k) only.1 f.1))

freed_call : (k : Kernel) (c : MadeCall) → IsTidied k → IsReady WellFormed k c.pid c.call c.chosen → all_freed c.chosen (edits k c.pid c.call) k ≡ tidy (changed k c.pid c.call c.chosen)
freed_call k c t ready =
    let fit : FitsAll c.chosen k (edits k c.pid c.call) = fits k c.pid c.call c.chosen ready in
    along c.chosen (edits k c.pid c.call) k k t.well (sym t.tidied) fit (fits_freed c.chosen (edits k c.pid c.call) k (only_last k c.pid c.call) fit)

-- a directory that loses its name goes
nothing_more : (chosen : List ℕ) (k : Kernel) (e : Edit) (n : ℕ) → 0 < times n (unnamed e) → (times n (named chosen e) ≡ 0) × (times n (opened chosen e) ≡ 0)
nothing_more chosen k (Unname_file d x m) n has = (refl, refl)
nothing_more chosen k (Unname_directory d x m) n has = (refl, refl)
nothing_more chosen k (Move d x a y m replaced) n has = (refl, refl)
nothing_more chosen k e n has = absurd (let some : 0 < times n [] = has in omega arith)

not_open : (k : Kernel) (n : ℕ) → WellFormed k → kind_of k n ≡ Some A_directory → openings k n ≡ 0
unfolding openings
not_open k n well is = sum-zero nat_cmp_total (λ (v : Description). cond (v.inode == n) 1 0) k.descriptions (λ d it gives.
    not_counted it.inode n (λ same. subst CanBeOpened (ap (kind_of k) same ∙ is) (well.descriptions d it gives)))

directory_goes : (chosen : List ℕ) (k : Kernel) (e : Edit) (n : ℕ) → WellFormed k → Fits chosen k e → kind_of k n ≡ Some A_directory → 0 < times n (unnamed e) → is_reached (applied chosen e k) n ≡ false
directory_goes chosen k e n well f is has = by_test (is_reached after n) refl
  where
    after : Kernel
    after = applied chosen e k

    counts : EditCounts chosen k e
    counts = counts_change chosen k e f

    linked : links after n + times n (unnamed e) ≡ links k n
    linked = let equal : links after n + times n (unnamed e) ≡ links k n + times n (named chosen e) = counts.links n in let none : times n (named chosen e) ≡ 0 = (nothing_more chosen k e n has).0 in omega arith

    no_links : links after n ≡ 0
    no_links = let equal : links after n + times n (unnamed e) ≡ links k n = linked in let low : links k n ≤ 1 = well.one_name n is in omega arith

    no_openings : openings after n ≡ 0
    no_openings = let same : openings after n ≡ openings k n + times n (opened chosen e) = counts.openings n in let none : times n (opened chosen e) ≡ 0 = (nothing_more chosen k e n has).1 in let before : openings k n ≡ 0 = not_open k n well is in omega arith

    not_root : n ≡ after.root → ⊥
    not_root e' = let equal : links after n + times n (unnamed e) ≡ links k n = linked in let none : links k n ≡ 0 = ap (links k) (e' ∙ (edit_comes chosen k e f counts).root) ∙ well.root_unnamed in absurd (omega arith)

    by_test : (b : Bool) → is_reached after n ≡ b → b ≡ false
    by_test false e' = refl
    by_test true e' = either_of (n == after.root) (nat_lt 0 (links after n)) (nat_lt 0 (openings after n)) (true ≡ false) e'
        (λ root. absurd (not_root (eqb-true n after.root root)))
        (λ some. absurd (let more : 0 < links after n = ltb-true 0 (links after n) some in let none : links after n ≡ 0 = no_links in omega arith))
        (λ some. absurd (let more : 0 < openings after n = ltb-true 0 (openings after n) some in let none : openings after n ≡ 0 = no_openings in omega arith))

pub sweep_is_tidy_lem : SweepIsTidy
sweep_is_tidy_lem = record {
  one = one;
  in_turn = λ chosen k e t f. turned_is_tidy chosen k e (counts_change chosen k e f) (edit_comes chosen k e f (counts_change chosen k e f)) (well_stays chosen k e t.well f).parents (are_set (applied chosen e k) (well_stays chosen k e t.well f)) (nothing_lost k t.tidied);
  none = λ chosen k e t f lasts. sym (one chosen k e t f) ∙ keeps_all chosen k e lasts;
  directory = directory_goes;
  at_end = at_end;
  at_once = λ chosen k es t f g. along chosen es k k t.well (sym t.tidied) f g;
  call = freed_call;
  calls = λ k cs t ready. along_calls cs k k t.well (sym t.tidied) ready;
  description_unseen = description_unseen;
  inode_unseen = λ k n well. inode_unseen k n well.parents;
  well = effects_well;
  parented = λ k well. well.parents;
  set = are_set;
  bare = unreached_bare;
  turn = parents_freed;
  stays = λ chosen k e t f. subst IsTidied (sym (one chosen k e t f)) (is_tidied (applied chosen e k) (well_stays chosen k e t.well f));
}
