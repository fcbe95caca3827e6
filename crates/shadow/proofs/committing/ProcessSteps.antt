-- The slots of each process that change, one process after the other.
use Rattle.std.proofs.Common.{◌≡◌, ◌≢◌, ℕ, ◌+◌, ◌<◌, ◌≤◌, List, [], ◌∷◌, ◌++◌, length, get_or, set, take, None, Some, refl, sym, ap, subst, ◌∙◌, arith, inl, inr}
use Rattle.std.specs.List.{flat_map}
use Rattle.std.proofs.lemmas.Bool.{cases_eq}
use Rattle.std.proofs.lemmas.List.{get_or-set_other, length-set, take_all, take_more, take_more_set}
use Rattle.std.proofs.lemmas.List.Concat.{flat_map-cons}
use Rattle.std.proofs.lemmas.Grind.{flat_map-append}
use Rattle.model.specs.FiniteMap.{empty, entries, get}
use Rattle.fdtable.specs.Patches.{Given}
use Rattle.freeing_laws.specs.Counts.{times}
use Rattle.store.specs.Numbers.{Numbers}
use Rattle.shadow.specs.Stored.{Processes, numbered}
use Rattle.notes.specs.Patches.{kept_at, reslotted, slots_in}
use Rattle.notes.specs.Openings.{AreOnce}
use Rattle.shadow.specs.Laid.{AreReslotted, IsReslotted, SlotsStay, given_by, given_in, table_in}
use Rattle.notes.proofs.Laws.{Entries, kept_its, key_at, none_ahead, once_set, patch_at, pushed_other, pushed_same}
use Rattle.shadow.proofs.committing.SlotSteps.{times_both}
use Rattle.shadow.proofs.committing.TableSteps.{stays_on, stays_still, still_there}

-- the changes of the processes at places below i are made
pub record Lays (i : ℕ) (es now : Entries) (ps qs : Processes) (old new : Numbers) : Type 0 where
  pub count : length now ≡ length es
  pub later : (j : ℕ) → i ≤ j → get_or now j (0, empty) ≡ get_or es j (0, empty)
  pub once : AreOnce now
  pub stay : SlotsStay ps qs old new
  pub processes : (pid : ℕ) → get (numbered qs) pid ≡ reslotted (kept_at (take i es) pid) (get (numbered ps) pid)
  pub let_go : (pid f d : ℕ) → get (table_in (get (numbered ps) pid)) f ≡ Some d → get (table_in (get (numbered qs) pid)) f ≢ Some d → 0 < times d (given_in (take i now))

pub lays_nothing : (es : Entries) (ps : Processes) (s : Numbers) → AreOnce es → Lays 0 es es ps ps s s
lays_nothing es ps s once = record {
  count = refl;
  later = λ j low. refl;
  once = once;
  stay = stays_still ps s;
  processes = λ pid. refl;
  let_go = λ pid f d was gone. absurd (gone was);
}

-- what one process more gave before
given_pushed : (d : ℕ) (es : Entries) (e : ℕ × Given) → times d (given_in (es ++ e ∷ [])) ≡ times d (given_in es) + times d (flat_map (λ g. given_by g.1) (entries e.1))
given_pushed d es e =
    let f : ℕ × Given → List ℕ = λ p. flat_map (λ g. given_by g.1) (entries p.1) in
    let all : times d (given_in (es ++ e ∷ [])) ≡ times d (given_in es) + times d (flat_map f (e ∷ [])) = ap (times d) (flat_map-append f es (e ∷ [])) ∙ times_both d (given_in es) (flat_map f (e ∷ [])) in
    let one : times d (flat_map f (e ∷ [])) ≡ times d (f e) + times d (flat_map f []) = ap (times d) (flat_map-cons f e []) ∙ times_both d (f e) (flat_map f []) in
    let none : times d (flat_map f []) ≡ 0 = refl in
    omega (arith, all, one, none)

module _ (i : ℕ) (es now : Entries) (ps qs : Processes) (old new : Numbers) (once : AreOnce es) (low : i < length es) (so : Lays i es now ps qs old new) where
  same_key : key_at now i ≡ key_at es i
  same_key = ap (λ (e : ℕ × Given). e.0) (so.later i (omega arith))

  -- the next process is there
  pub next_there : ((pid : ℕ) → slots_in (kept_at es pid) ≢ [] → get (numbered ps) pid ≢ None) → entries (patch_at now i) ≢ [] → get (numbered qs) (key_at now i) ≢ None
  next_there living some none =
      still_there (kept_at (take i es) (key_at es i)) (get (numbered ps) (key_at es i))
      (living (key_at es i) (λ none. some (ap (λ (e : ℕ × Given). entries e.1) (so.later i (omega arith)) ∙ sym (ap slots_in (kept_its es i once low)) ∙ none)))
      (sym (so.processes (key_at es i)) ∙ ap (get (numbered qs)) (sym same_key) ∙ none)

  -- and its slots change
  module _ (former : Given) (rs : Processes) (later : Numbers) (laid : IsReslotted (key_at es i) (patch_at es i) former qs rs new later) where
    abbrev after : Entries
    after = set now i (key_at es i, former)

    first_ones : take (i + 1) es ≡ take i es ++ (key_at es i, patch_at es i) ∷ []
    first_ones = take_more es i (0, empty) low

    first_now : take (i + 1) after ≡ take i now ++ (key_at es i, former) ∷ []
    first_now = take_more_set now i (key_at es i, former) (let all : length now ≡ length es = so.count in omega arith)

    -- the process was as before
    as_before : get (numbered qs) (key_at es i) ≡ get (numbered ps) (key_at es i)
    as_before = so.processes (key_at es i) ∙ ap (λ o. reslotted o (get (numbered ps) (key_at es i))) (none_ahead es i once low)

    processes_then : (pid : ℕ) → get (numbered rs) pid ≡ reslotted (kept_at (take (i + 1) es) pid) (get (numbered ps) pid)
    processes_then pid = elim (cases_eq pid (key_at es i)) [
      | inl same ↦ subst (λ q. get (numbered rs) q ≡ reslotted (kept_at (take (i + 1) es) q) (get (numbered ps) q)) (sym same)
          (laid.here ∙ ap (reslotted (Some (patch_at es i))) as_before
          ∙ sym (ap (λ o. reslotted o (get (numbered ps) (key_at es i))) (ap (λ xs. kept_at xs (key_at es i)) first_ones ∙ pushed_same (take i es) (key_at es i) (patch_at es i) (none_ahead es i once low))))
      | inr away ↦ laid.others pid away ∙ so.processes pid
          ∙ sym (ap (λ o. reslotted o (get (numbered ps) pid)) (ap (λ xs. kept_at xs pid) first_ones ∙ pushed_other (take i es) (key_at es i) (patch_at es i) pid away))
    ]

    let_go_then : (pid f d : ℕ) → get (table_in (get (numbered ps) pid)) f ≡ Some d → get (table_in (get (numbered rs) pid)) f ≢ Some d → 0 < times d (given_in (take (i + 1) after))
    let_go_then pid f d was gone =
        let all : times d (given_in (take (i + 1) after)) ≡ times d (given_in (take i now)) + times d (flat_map (λ g. given_by g.1) (entries former)) = ap (λ xs. times d (given_in xs)) first_now ∙ given_pushed d (take i now) (key_at es i, former) in
        elim (cases_eq pid (key_at es i)) [
          | inl same ↦
              (let here : 0 < times d (flat_map (λ g. given_by g.1) (entries former)) = laid.let_go f d (ap (λ o. get (table_in o) f) (as_before ∙ ap (get (numbered ps)) (sym same)) ∙ was)
              (λ is. gone (ap (λ q. get (table_in (get (numbered rs) q)) f) same ∙ is)) in
              omega (arith, all, here))
          | inr away ↦
              (let before : 0 < times d (given_in (take i now)) = so.let_go pid f d was (λ is. gone (ap (λ o. get (table_in o) f) (laid.others pid away) ∙ is)) in
              omega (arith, all, before))
        ]

    pub lays_on : Lays (i + 1) es after ps rs old later
    lays_on = record {
      count = length-set now i (key_at es i, former) ∙ so.count;
      later = λ j high. get_or-set_other now i j (key_at es i, former) (0, empty) (λ same. omega (arith, same, high)) ∙ so.later j (omega (arith, high));
      once = once_set now i (key_at es i) former same_key so.once;
      stay = stays_on ps qs rs old new later so.stay laid.stay;
      processes = processes_then;
      let_go = let_go_then;
    }

-- those of all processes are made
pub lays_all : (i : ℕ) (es now : Entries) (ps qs : Processes) (old new : Numbers) → length es ≤ i → Lays i es now ps qs old new → AreReslotted es now ps qs old new
lays_all i es now ps qs old new high so = record {
  stay = so.stay;
  processes = λ pid. so.processes pid ∙ ap (λ xs. reslotted (kept_at xs pid) (get (numbered ps) pid)) (take_all i es high);
  let_go = λ pid f d was gone. subst (λ xs. 0 < times d (given_in xs)) (take_all i now (let all : length now ≡ length es = so.count in omega (arith, all, high))) (so.let_go pid f d was gone);
}
