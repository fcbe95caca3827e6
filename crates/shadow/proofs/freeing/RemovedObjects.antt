-- An inode, or a description, to which nothing leads goes from the store, as it goes from the state.
use Rattle.std.proofs.Common.{◌≡◌, ◌≢◌, ℕ, ◌+◌, ◌-◌, ◌<◌, ◌==◌, ◌||◌, nat_lt, lt-ltb, eqb-true, eq-eqb, ne_eqb, Bool, true, false, cond, not, Option, Some, None, refl, sym, ap, subst, ◌∙◌, arith, inl, inr}
use Rattle.std.specs.Option.{option_map, option_and_then}
use Rattle.std.specs.Cmp.Lexicographic.{nat_list_cmp_total}
use Rattle.std.proofs.lemmas.Bool.{cases_eq, or_left, or_right}
use Rattle.model.specs.FiniteMap.{get, remove, empty, same_map, get-empty}
use Rattle.model.specs.State.{Name, Kernel, Inode, Description, Kind, name_cmp, kind, kind_of, mapped, names_of, names_of_inode, links}
use Rattle.model.specs.Changes.{holders, is_held, is_reached, openings}
use Rattle.model.proofs.Laws.{name_exact, removed_same, removed_other}
use Rattle.call_laws.proofs.Laws.{empty_gives, none_count, not_none, true_is_false}
use Rattle.freeing_laws.specs.Counts.{free_description, free_inode, opens}
use Rattle.freeing_laws.specs.Pipes.{ArePair}
use Rattle.freeing_laws.specs.Sweep.{AreParented, AreSet, closed, free_inodes, inode_in as opened_in}
use Rattle.freeing_laws.proofs.Laws.{sweep_is_tidy_lem}
use Rattle.freeing_laws.proofs.Openings.{openings_change_lem}
use Rattle.store.specs.Links.{links_in}
use Rattle.store.specs.Numbers.{Numbers, held, if_held, object_at}
use Rattle.store.specs.Places.{altered, changed_file, holders_at, holders_of, less_openings, lost, opened_in as kept_opened_in, with_file}
use Rattle.store.specs.Shown.{inodes, inode_of, descriptions, description_of}
use Rattle.store.specs.declared.OpenFile.{OpenFile}
use Rattle.store.specs.declared.Opened.{Opened}
use Rattle.store.specs.declared.Place.{Place}
use Rattle.store.specs.declared.Stage.{Stage}
use Rattle.store.specs.declared.Stage.TheVariants.{Coming, Held, Removed}
use Rattle.store.specs.declared.Object.{Object}
use Rattle.store.specs.declared.Object.TheVariants.{Directory as Kept_directory, File as Kept_file, Pipe as Kept_pipe, Fixed as Kept_fixed, Description as Kept_description, Nothing}
use Rattle.store.proofs.Laws.{get-inodes, get-descriptions, inodes-lost, descriptions-lost, rights-lost, links-links_in, place-altered, place-other, remove-absent}
use Rattle.shadow.specs.Laid.{Frees, Holds}
use Rattle.shadow.specs.Stored.{Processes, state_of, stored}
use Rattle.shadow.proofs.shared.PipePairLemmas.{pair_removed, pipe_by_file, pipe_stood, same_pairs}
use Rattle.shadow.proofs.freeing.RemainingPlaces.{description_settled, file_keeps, file_staged, inode_settled, lost_before, lost_keeps, lost_root, lost_staged}

-- the test of a number
pub equal_by : (n m : ℕ) → true ≡ (n == m) → n ≡ m
equal_by n m e = eqb-true n m (sym e)

pub other_by : (n m : ℕ) → false ≡ (n == m) → n ≢ m
other_by n m e is = true_is_false (sym (eq-eqb n m is) ∙ sym e)

pub zero_by : (n : ℕ) → false ≡ not (n == 0) → n ≡ 0
zero_by n h = by_test (n == 0) refl h
  where
    by_test : (b : Bool) → (n == 0) ≡ b → false ≡ not b → n ≡ 0
    by_test true e h = eqb-true n 0 e
    by_test false e h = absurd (true_is_false (sym h))

pub some_by : (n : ℕ) → true ≡ not (n == 0) → 0 < n
some_by n h = by_test (n == 0) refl h
  where
    by_test : (b : Bool) → (n == 0) ≡ b → true ≡ not b → 0 < n
    by_test true e h = absurd (true_is_false h)
    by_test false e h = (let some : n ≢ 0 = λ is. true_is_false (sym (eq-eqb n 0 is) ∙ e) in omega arith)

-- a number does not stand for an inode and for a description
pub one_kind : (s : Numbers) (d : ℕ) → get (descriptions s) d ≢ None → get (inodes s) d ≡ None
one_kind s d there = get-inodes s d ∙ by_object (object_at s d) (λ none. there (get-descriptions s d ∙ none))
  where
    by_object : (o : Option Object) → option_and_then description_of o ≢ None → option_and_then inode_of o ≡ None
    by_object None there = refl
    by_object (Some (Kept_directory l)) there = absurd (there refl)
    by_object (Some (Kept_file file)) there = absurd (there refl)
    by_object (Some (Kept_pipe pipe)) there = absurd (there refl)
    by_object (Some (Kept_fixed fixed)) there = absurd (there refl)
    by_object (Some (Kept_description opened)) there = refl
    by_object (Some Nothing) there = absurd (there refl)

pub not_described : (s : Numbers) (n : ℕ) → get (inodes s) n ≢ None → get (descriptions s) n ≡ None
not_described s n there = get-descriptions s n ∙ by_object (object_at s n) (λ none. there (get-inodes s n ∙ none))
  where
    by_object : (o : Option Object) → option_and_then inode_of o ≢ None → option_and_then description_of o ≡ None
    by_object None there = refl
    by_object (Some (Kept_directory l)) there = refl
    by_object (Some (Kept_file file)) there = refl
    by_object (Some (Kept_pipe pipe)) there = refl
    by_object (Some (Kept_fixed fixed)) there = refl
    by_object (Some (Kept_description opened)) there = absurd (there refl)
    by_object (Some Nothing) there = absurd (there refl)

-- what is reached, by the counts
pub root_reached : (k : Kernel) (n : ℕ) → n ≡ k.root → is_reached k n ≡ true
root_reached k n is = or_left (n == k.root) _ (eq-eqb n k.root is)

pub named_reached : (k : Kernel) (n : ℕ) → 0 < links_in k.inodes n → is_reached k n ≡ true
named_reached k n some = or_right (n == k.root) _ (or_left (nat_lt 0 (links k n)) _ (lt-ltb 0 _ (let same : links k n ≡ links_in k.inodes n = links-links_in k n in omega arith)))

pub open_reached : (k : Kernel) (n : ℕ) → 0 < openings k n → is_reached k n ≡ true
open_reached k n some = or_right (n == k.root) _ (or_right (nat_lt 0 (links k n)) _ (lt-ltb 0 _ some))

pub not_reached : (k : Kernel) (n : ℕ) → n ≢ k.root → links_in k.inodes n ≡ 0 → openings k n ≡ 0 → is_reached k n ≡ false
not_reached k n away none closed =
    ap (λ (b : Bool). b || (nat_lt 0 (links k n) || nat_lt 0 (openings k n))) (ne_eqb n k.root away)
    ∙ ap (λ (c : ℕ). nat_lt 0 c || nat_lt 0 (openings k n)) (links-links_in k n ∙ none)
    ∙ ap (λ (c : ℕ). nat_lt 0 c) closed

-- what is not reached has no names
pub bare_if_unreached : (k : Kernel) (n : ℕ) → AreParented k → is_reached k n ≡ false → names_of k n ≡ empty
bare_if_unreached k n parented is = same_map nat_list_cmp_total name_exact _ empty (λ x. nothing x (get (names_of k n) x) refl ∙ sym (get-empty _ x))
  where
    nothing : (x : Name) (o : Option ℕ) → get (names_of k n) x ≡ o → get (names_of k n) x ≡ None
    nothing x None e = e
    nothing x (Some m) e = absurd (sweep_is_tidy_lem.bare k n parented is x m e)

-- an inode to be freed
module _ (ps : Processes) (s : Numbers) (n : ℕ) (holds : Holds ps s) where
  abbrev k : Kernel
  k = state_of ps s

  pub stays_reached : is_reached (state_of ps s) n ≡ true → Frees (free_inode n) ps s s
  unfolding free_inode openings links
  stays_reached is = record { state = sym (ap (λ b. cond b k (record k { inodes = remove (inodes s) n; rights = remove s.rights n })) is); holds = holds; kept = λ c. refl }

  pub stays_absent : get (inodes s) n ≡ None → Frees (free_inode n) ps s s
  unfolding free_inode openings links
  stays_absent none = record { state = by_test (is_reached k n); holds = holds; kept = λ c. refl }
    where
      by_test : (b : Bool) → k ≡ cond b k (record k { inodes = remove (inodes s) n; rights = remove s.rights n })
      by_test true = refl
      by_test false = sym (ap (λ m. stored ps m (remove s.rights n) (descriptions s)) (remove-absent (inodes s) n none) ∙ ap (λ r. stored ps (inodes s) r (descriptions s)) (remove-absent s.rights n (holds.set n none)))

  module _ (there : get (inodes s) n ≢ None) (is : is_reached (state_of ps s) n ≡ false) where
    abbrev t : Numbers
    t = lost s n

    same_descriptions : descriptions (lost s n) ≡ descriptions s
    same_descriptions = descriptions-lost s n ∙ remove-absent (descriptions s) n (not_described s n there)

    state : state_of ps (lost s n) ≡ free_inode n (state_of ps s)
    unfolding free_inode openings links
    state =
        ap (λ m. stored ps m t.rights (descriptions t)) (inodes-lost s n) ∙ ap (λ r. stored ps (remove (inodes s) n) r (descriptions t)) (rights-lost s n)
        ∙ ap (stored ps (remove (inodes s) n) (remove s.rights n)) same_descriptions ∙ sym (ap (λ b. cond b k (record k { inodes = remove (inodes s) n; rights = remove s.rights n })) is)

    -- rights are set of what is left alone
    still_set : AreSet (state_of ps (lost s n))
    still_set m none = ap (λ r. get r m) (rights-lost s n) ∙ elim (cases_eq m n) [
      | inl same ↦ ap (get (remove s.rights n)) same ∙ removed_same s.rights n
      | inr away ↦ removed_other s.rights n m away ∙ holds.set m (sym (removed_other (inodes s) n m away) ∙ ap (λ q. get q m) (sym (inodes-lost s n)) ∙ none)
    ]

    inode_before : (m : ℕ) (i : Inode) → get (inodes (lost s n)) m ≡ Some i → get (inodes s) m ≡ Some i
    inode_before m i gives = elim (cases_eq m n) [
      | inl same ↦ absurd (not_none i (sym gives ∙ ap (get (inodes t)) same ∙ ap (λ q. get q n) (inodes-lost s n) ∙ removed_same (inodes s) n))
      | inr away ↦ sym (ap (λ q. get q m) (inodes-lost s n) ∙ removed_other (inodes s) n m away) ∙ gives
    ]

    name_before : (m : ℕ) (x : Name) (d : ℕ) → get (names_of_inode (get (inodes (lost s n)) m)) x ≡ Some d → get (names_of_inode (get (inodes s) m)) x ≡ Some d
    name_before m x d gives = by_inode (get (inodes t) m) refl gives
      where
        by_inode : (o : Option Inode) → get (inodes t) m ≡ o → get (names_of_inode o) x ≡ Some d → get (names_of_inode (get (inodes s) m)) x ≡ Some d
        by_inode None e gives = absurd (empty_gives name_cmp x d gives)
        by_inode (Some i) e gives = ap (λ o. get (names_of_inode o) x) (inode_before m i e) ∙ gives

    kind_before : (m : ℕ) (what : Kind) → mapped kind (get (inodes (lost s n)) m) ≡ Some what → mapped kind (get (inodes s) m) ≡ Some what
    kind_before m what is = by_inode (get (inodes t) m) refl is
      where
        by_inode : (o : Option Inode) → get (inodes t) m ≡ o → mapped kind o ≡ Some what → mapped kind (get (inodes s) m) ≡ Some what
        by_inode None e is = absurd (not_none what (sym is))
        by_inode (Some i) e is = ap (mapped kind) (inode_before m i e) ∙ is

    same_openings : (m : ℕ) → openings (state_of ps (lost s n)) m ≡ openings (state_of ps s) m
    same_openings m = openings_change_lem.by_descriptions k (state_of ps t) same_descriptions m

    loses_inode : Frees (free_inode n) ps s (lost s n)
    loses_inode = record {
      state = state;
      holds = record {
        root = lost_root s n ∙ holds.root;
        parented = subst AreParented (sym state) (sweep_is_tidy_lem.turn k n holds.parented);
        set = still_set;
        unnamed = λ d m x there gives. holds.unnamed d m x (λ none. there (ap (λ q. get q d) same_descriptions ∙ none)) (name_before m x d gives);
        unopened = λ m what is never. same_openings m ∙ holds.unopened m what (kind_before m what is) never;
        staged = lost_staged s n holds.staged;
        counted = record {
          openings = λ m file is. holds.counted.openings m file (lost_before s n m (Kept_file file) is) ∙ sym (same_openings m);
          holders = λ d opened is. holds.counted.holders d opened (lost_before s n d (Kept_description opened) is) ∙ sym (openings_change_lem.by_processes k (state_of ps t) refl d);
          pipes = λ p pipe is. same_pairs k (state_of ps t) same_descriptions p pipe.reader pipe.writer (holds.counted.pipes p pipe (lost_before s n p (Kept_pipe pipe) is));
        };
      };
      kept = lost_keeps s n (inode_settled s n there);
    }

    pub frees_inode : (now : Numbers) → now ≡ lost s n → Frees (free_inode n) ps s now
    frees_inode now is = subst (Frees (free_inode n) ps s) (sym is) loses_inode

-- a description that is shown
pub record IsShown (s : Numbers) (d : ℕ) (it : Description) : Type 0 where
  pub opened : Opened
  pub object : object_at s d ≡ Some (Kept_description opened)
  pub is : opened.description ≡ it
  pub holders : holders_at s d ≡ opened.holders

pub shown_description : (s : Numbers) (d : ℕ) (it : Description) → get (descriptions s) d ≡ Some it → IsShown s d it
shown_description s d it is = by_place (get s.places d) refl (sym (get-descriptions s d) ∙ is)
  where
    by_object : (object : Object) → get s.places d ≡ Some (record { stage = Held; object = object }) → description_of object ≡ Some it → IsShown s d it
    by_object (Kept_description opened) at is = record { opened = opened; object = ap held at; is = some_same is; holders = ap (λ o. holders_of (kept_opened_in o)) at }
      where
        some_same : Some opened.description ≡ Some it → opened.description ≡ it
        some_same e = cc
    by_object (Kept_directory l) at is = absurd (not_none it (sym is))
    by_object (Kept_file file) at is = absurd (not_none it (sym is))
    by_object (Kept_pipe pipe) at is = absurd (not_none it (sym is))
    by_object (Kept_fixed fixed) at is = absurd (not_none it (sym is))
    by_object Nothing at is = absurd (not_none it (sym is))

    by_place : (o : Option Place) → get s.places d ≡ o → option_and_then description_of (held o) ≡ Some it → IsShown s d it
    by_place None at is = absurd (not_none it (sym is))
    by_place (Some place) at is = by_stage place.stage place.object at is
      where
        by_stage : (t : Stage) (object : Object) → get s.places d ≡ Some (record { stage = t; object = object }) → option_and_then description_of (if_held t object) ≡ Some it → IsShown s d it
        by_stage Held object at is = by_object object at is
        by_stage Coming object at is = absurd (not_none it (sym is))
        by_stage Removed object at is = absurd (not_none it (sym is))

module _ (ps : Processes) (s : Numbers) (d : ℕ) (holds : Holds ps s) where
  pub holders_are : (it : Description) → get (descriptions s) d ≡ Some it → holders_at s d ≡ holders (state_of ps s) d
  holders_are it is =
      let shown : IsShown s d it = shown_description s d it is in
      shown.holders ∙ holds.counted.holders d shown.opened shown.object

-- a file with one opening less
file_before : (o : Option Place) (file : OpenFile) → held (option_map (with_file less_openings) o) ≡ Some (Kept_file file) → (before : OpenFile) × (held o ≡ Some (Kept_file before)) × (file.openings ≡ before.openings - 1)
file_before None file is = absurd cc
file_before (Some place) file is = by_stage place.stage place.object is
  where
    by_object : (object : Object) → Some (changed_file less_openings object) ≡ Some (Kept_file file) → (before : OpenFile) × (Some object ≡ Some (Kept_file before)) × (file.openings ≡ before.openings - 1)
    by_object (Kept_file before) is = (before, refl, ap (λ (o : Option Object). count o) (sym is))
      where
        count : Option Object → ℕ
        count (Some (Kept_file file)) = file.openings
        count _ = 0
    by_object (Kept_directory l) is = absurd cc
    by_object (Kept_pipe pipe) is = absurd cc
    by_object (Kept_fixed fixed) is = absurd cc
    by_object (Kept_description opened) is = absurd cc
    by_object Nothing is = absurd cc

    by_stage : (t : Stage) (object : Object) → if_held t (changed_file less_openings object) ≡ Some (Kept_file file) → (before : OpenFile) × (if_held t object ≡ Some (Kept_file before)) × (file.openings ≡ before.openings - 1)
    by_stage Held object is = by_object object is
    by_stage Coming object is = absurd cc
    by_stage Removed object is = absurd cc

opened_before : (o : Option Place) (opened : Opened) → held (option_map (with_file less_openings) o) ≡ Some (Kept_description opened) → held o ≡ Some (Kept_description opened)
opened_before None opened is = is
opened_before (Some place) opened is = by_stage place.stage place.object is
  where
    by_object : (object : Object) → Some (changed_file less_openings object) ≡ Some (Kept_description opened) → Some object ≡ Some (Kept_description opened)
    by_object (Kept_file before) is = absurd cc
    by_object (Kept_pipe pipe) is = absurd cc
    by_object (Kept_fixed fixed) is = absurd cc
    by_object (Kept_directory l) is = absurd cc
    by_object (Kept_description opened) is = is
    by_object Nothing is = absurd cc

    by_stage : (t : Stage) (object : Object) → if_held t (changed_file less_openings object) ≡ Some (Kept_description opened) → if_held t object ≡ Some (Kept_description opened)
    by_stage Held object is = by_object object is
    by_stage Coming object is = is
    by_stage Removed object is = is

-- a description that no slot gives goes, and its inode has one opening less
module _ (ps : Processes) (s : Numbers) (d : ℕ) (it : Description) (holds : Holds ps s) (is : get (descriptions s) d ≡ Some it) where
  there : get (descriptions s) d ≢ None
  there none = not_none it (sym is ∙ none)

  pub description_unnamed : links_in (inodes s) d ≡ 0
  description_unnamed = sym (links-links_in (state_of ps s) d) ∙ none_count (state_of ps s) d (λ n x gives. holds.unnamed d n x there gives)

  pub description_bare : names_of_inode (get (inodes s) d) ≡ empty
  description_bare = ap names_of_inode (one_kind s d there)

  pub stays_held : holders_at s d ≢ 0 → Frees (free_description d) ps s s
  unfolding free_description
  stays_held some = record {
    state = sym (ap (λ b. cond b (state_of ps s) (record (state_of ps s) { descriptions = remove (descriptions s) d }))
        (lt-ltb 0 (holders (state_of ps s) d) (let same : holders_at s d ≡ holders (state_of ps s) d = holders_are ps s d holds it is in omega arith)));
    holds = holds;
    kept = λ c. refl;
  }

  module _ (none : holders_at s d ≡ 0) where
    abbrev hid : Numbers
    hid = lost s d

    abbrev left : Numbers
    left = altered (with_file less_openings) (lost s d) it.inode

    abbrev after : Kernel
    after = record (state_of ps s) { descriptions = remove (descriptions s) d }

    unheld : is_held (state_of ps s) d ≡ false
    unheld = ap (nat_lt 0) (sym (holders_are ps s d holds it is) ∙ none)

    after_is : after ≡ free_description d (state_of ps s)
    unfolding free_description
    after_is = sym (ap (λ b. cond b (state_of ps s) after) unheld)

    parented : AreParented after
    unfolding links
    parented = holds.parented

    goes : (n : ℕ) → openings after n + opens n (Some it) ≡ openings (state_of ps s) n
    goes n = ap (λ o. openings after n + opens n o) (sym is) ∙ openings_change_lem.goes (state_of ps s) d n

    -- of a description none are set
    same_rights : left.rights ≡ s.rights
    same_rights = rights-lost s d ∙ remove-absent s.rights d (holds.set d (one_kind s d there))

    module _ (same_inodes : inodes left ≡ inodes hid) (same_descriptions : descriptions left ≡ descriptions hid) where
      left_state : state_of ps left ≡ after
      left_state =
          ap (λ m. stored ps m left.rights (descriptions left)) (same_inodes ∙ inodes-lost s d ∙ remove-absent (inodes s) d (one_kind s d there))
          ∙ ap (λ r. stored ps (inodes s) r (descriptions left)) same_rights
          ∙ ap (stored ps (inodes s) s.rights) (same_descriptions ∙ descriptions-lost s d)

      there_before : (e : ℕ) → get (descriptions left) e ≢ None → get (descriptions s) e ≢ None
      there_before e there none = there (ap (λ (k : Kernel). get k.descriptions e) left_state ∙ elim (cases_eq e d) [
        | inl same ↦ ap (get (remove (descriptions s) d)) same ∙ removed_same (descriptions s) d
        | inr away ↦ removed_other (descriptions s) d e away ∙ none
      ])

      none_more : (n : ℕ) → openings (state_of ps s) n ≡ 0 → openings after n ≡ 0
      none_more n none = let sum : openings after n + opens n (Some it) ≡ openings (state_of ps s) n = goes n in omega arith

      file_counted : (n : ℕ) (file : OpenFile) → object_at left n ≡ Some (Kept_file file) → file.openings ≡ openings after n
      file_counted n file at = elim (cases_eq n it.inode) [
        | inl same ↦ here same (file_before (get hid.places it.inode) file (sym (ap held (place-altered (with_file less_openings) hid it.inode)) ∙ ap (object_at left) (sym same) ∙ at))
        | inr away ↦ (
            let was : file.openings ≡ openings (state_of ps s) n = holds.counted.openings n file (lost_before s d n (Kept_file file) (sym (ap held (place-other (with_file less_openings) hid it.inode n away)) ∙ at)) in
            let sum : openings after n + opens n (Some it) ≡ openings (state_of ps s) n = goes n in
            let none : opens n (Some it) ≡ 0 = openings_change_lem.one n it ∙ ap (λ b. cond {A = ℕ} b 1 0) (ne_eqb it.inode n (λ e. away (sym e))) in
            omega arith)
      ]
        where
          here : n ≡ it.inode → (before : OpenFile) × (object_at hid it.inode ≡ Some (Kept_file before)) × (file.openings ≡ before.openings - 1) → file.openings ≡ openings after n
          here same (before, at, less) =
              let was : before.openings ≡ openings (state_of ps s) it.inode = holds.counted.openings it.inode before (lost_before s d it.inode (Kept_file before) at) in
              let sum : openings after it.inode + opens it.inode (Some it) ≡ openings (state_of ps s) it.inode = goes it.inode in
              let one : opens it.inode (Some it) ≡ 1 = openings_change_lem.one it.inode it ∙ ap (λ b. cond {A = ℕ} b 1 0) (eq-eqb it.inode it.inode refl) in
              let here : file.openings ≡ openings after it.inode = omega arith in
              here ∙ ap (openings after) (sym same)

      description_before : (e : ℕ) (opened : Opened) → object_at left e ≡ Some (Kept_description opened) → object_at s e ≡ Some (Kept_description opened)
      description_before e opened at = lost_before s d e (Kept_description opened) (elim (cases_eq e it.inode) [
        | inl same ↦ ap (object_at hid) same ∙ opened_before (get hid.places it.inode) opened (sym (ap held (place-altered (with_file less_openings) hid it.inode)) ∙ ap (object_at left) (sym same) ∙ at)
        | inr away ↦ sym (ap held (place-other (with_file less_openings) hid it.inode e away)) ∙ at
      ])

      loses_description : Frees (free_description d) ps s left
      loses_description = record {
        state = left_state ∙ after_is;
        holds = record {
          root = lost_root s d ∙ holds.root;
          parented = subst AreParented (sym left_state) parented;
          set = subst AreSet (sym left_state) holds.set;
          unnamed = λ e n x there gives. holds.unnamed e n x (there_before e there) (ap (λ (k : Kernel). get (names_of k n) x) (sym left_state) ∙ gives);
          unopened = λ n what is never. ap (λ (k : Kernel). openings k n) left_state ∙ none_more n (holds.unopened n what (ap (λ (k : Kernel). kind_of k n) (sym left_state) ∙ is) never);
          staged = file_staged less_openings hid it.inode (lost_staged s d holds.staged);
          counted = record {
            openings = λ n file at. file_counted n file at ∙ ap (λ (k : Kernel). openings k n) (sym left_state);
            holders = λ e opened at. holds.counted.holders e opened (description_before e opened at) ∙ sym (openings_change_lem.by_processes (state_of ps s) (state_of ps left) refl e);
            pipes = λ p pipe at. subst (λ m. ArePair m p pipe.reader pipe.writer) (sym (ap (λ (k : Kernel). k.descriptions) left_state))
                (pair_removed (descriptions s) d p pipe.reader pipe.writer (holds.counted.pipes p pipe (lost_before s d p (Kept_pipe pipe) (pipe_stood (with_file less_openings) (pipe_by_file less_openings) hid it.inode p pipe at))));
          };
        };
        kept = λ c. file_keeps less_openings hid it.inode c ∙ lost_keeps s d (description_settled s d there) c;
      }

  pub frees_description : holders_at s d ≡ 0 → (mid now : Numbers) → mid ≡ lost s d → now ≡ altered (with_file less_openings) mid it.inode → inodes now ≡ inodes mid → descriptions now ≡ descriptions mid
      → Frees (free_description d) ps s now
  frees_description none mid now lost is same alike = by_now (is ∙ ap (λ (m : Numbers). altered (with_file less_openings) m it.inode) lost) (ap inodes lost) (ap descriptions lost)
    where
      by_now : now ≡ altered (with_file less_openings) (Rattle.store.specs.Places.lost s d) it.inode → inodes mid ≡ inodes (Rattle.store.specs.Places.lost s d) → descriptions mid ≡ descriptions (Rattle.store.specs.Places.lost s d) → Frees (free_description d) ps s now
      by_now is inodes_mid descriptions_mid = subst (Frees (free_description d) ps s) (sym is)
          (loses_description none (ap inodes (sym is) ∙ same ∙ inodes_mid) (ap descriptions (sym is) ∙ alike ∙ descriptions_mid))

-- then its inode is freed
pub closes : (ps : Processes) (s mid now : Numbers) (d : ℕ) (it : Description) → get (descriptions s) d ≡ Some it → Frees (free_description d) ps s mid → Frees (free_inode it.inode) ps mid now → Frees (closed d) ps s now
closes ps s mid now d it is first second = record {
  state = second.state ∙ ap (free_inode it.inode) first.state ∙ ap (λ o. free_inodes (opened_in o) (free_description d (state_of ps s))) (sym is);
  holds = second.holds;
  kept = λ c. second.kept c ∙ first.kept c;
}

-- where there is no description, nothing goes
pub closes_nothing : (ps : Processes) (s : Numbers) (d : ℕ) → Holds ps s → get (descriptions s) d ≡ None → Frees (closed d) ps s s
unfolding free_description
closes_nothing ps s d holds none = record {
  state = by_test (is_held (state_of ps s) d) ∙ ap (λ o. free_inodes (opened_in o) (free_description d (state_of ps s))) (sym none);
  holds = holds;
  kept = λ c. refl;
}
  where
    by_test : (b : Bool) → state_of ps s ≡ cond b (state_of ps s) (record (state_of ps s) { descriptions = remove (descriptions s) d })
    by_test true = refl
    by_test false = sym (ap (stored ps (inodes s) s.rights) (remove-absent (descriptions s) d none))
