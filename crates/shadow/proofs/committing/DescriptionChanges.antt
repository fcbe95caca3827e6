-- The changes of descriptions, made in the store one after the other.
use Rattle.std.proofs.Common.{◌≡◌, ℕ, ◌+◌, ◌≤◌, suc, Bool, true, false, cond, List, [], ◌∷◌, length}
use Rattle.std.proofs.Common.{Option, Some, None, nat_cmp, refl, sym, ap, subst, ◌∙◌, arith, inl}
use Rattle.std.proofs.Common.{inr}
use Rattle.std.specs.Option.{option_and_then, option_map}
use Rattle.std.specs.Cmp.{nat_cmp_total}
use Rattle.std.proofs.lemmas.Bool.{cases_eq}
use Rattle.model.specs.FiniteMap.{FinMap, contains_key, entries, from_entries, get, insert, len}
use Rattle.model.specs.FiniteMap.{len-empty, len-entries, len-insert}
use Rattle.model.specs.Changes.{openings}
use Rattle.call_laws.proofs.Laws.{true_is_false}
use Rattle.freeing_laws.proofs.Openings.{openings_change_lem}
use Rattle.store.specs.Numbers.{Numbers, held, if_held}
use Rattle.store.specs.Places.{altered, changed_file, file_in, more_openings, openings_of}
use Rattle.store.specs.Places.{with_file}
use Rattle.store.specs.Shown.{chosen, chosen_entries, description_in, descriptions, in_front}
use Rattle.store.specs.declared.OpenFile.{OpenFile}
use Rattle.store.specs.declared.Opened.{Opened}
use Rattle.store.specs.declared.Place.{Place}
use Rattle.store.specs.declared.Stage.{Stage}
use Rattle.store.specs.declared.Stage.TheVariants.{Coming, Held, Removed}
use Rattle.store.specs.declared.Object.{Object}
use Rattle.store.specs.declared.Object.TheVariants.{Directory as A_directory, File as A_file, Pipe as A_pipe, Fixed as A_fixed}
use Rattle.store.specs.declared.Object.TheVariants.{Description as A_description, Nothing}
use Rattle.store.proofs.Laws.{get-chosen, place-altered, place-other}
use Rattle.shadow.specs.Stored.{FitsStage, IsStaged, Processes, reserve_in, state_of}
use Rattle.shadow.specs.Laid.{reserves_of}

-- what a change of one place leaves to each of them
pub over : (f : Place → Place) (s : Numbers) (n : ℕ) (P : Option Place → Type 0)
    → ((o : Option Place) → P o → P (option_map f o)) → (q : ℕ) → P (get s.places q)
    → P (get (altered f s n).places q)
over f s n P keeps q h = elim (cases_eq q n) [
  | inl same ↦ subst (λ (q : ℕ). P (get (altered f s n).places q)) (sym same)
      (subst P (sym (place-altered f s n))
      (keeps (get s.places n) (subst (λ (q : ℕ). P (get s.places q)) same h)))
  | inr away ↦ subst P (sym (place-other f s n q away)) h
]

-- there are no more descriptions than numbers in use
len_more : {X : Type 0} (m : FinMap nat_cmp X) (n : ℕ) (x : X) (most : ℕ) → len m ≤ most
    → len (insert m n x) ≤ suc most
len_more m n x most low = by_test (contains_key m n) refl
  where
    by_test : (b : Bool) → contains_key m n ≡ b → len (insert m n x) ≤ suc most
    by_test true is = (let same : len (insert m n x) ≡ len m = len-insert nat_cmp_total m n x
        ∙ ap (λ b. cond b (len m) (len m + 1)) is in omega arith)
    by_test false is = (let more : len (insert m n x) ≡ len m + 1 = len-insert nat_cmp_total m n x
        ∙ ap (λ b. cond b (len m) (len m + 1)) is in omega arith)

len_from : {X : Type 0} (es : List (ℕ × X)) → len (from_entries {R = nat_cmp} es) ≤ length es
len_from {X} [] = (let none : len (from_entries {X = X} {R = nat_cmp} []) ≡ 0 = len-empty nat_cmp X
    in omega arith)
len_from {X} (e ∷ es) = len_more (from_entries es) e.0 e.1 (length es) (len_from es)

one_front : {Y : Type 0} (n : ℕ) (o : Option Y) (es : List (ℕ × Y)) (most : ℕ) → length es ≤ most
    → length (in_front n o es) ≤ suc most
one_front n (Some y) es most low = omega arith
one_front n None es most low = omega arith

fewer_entries : {X Y : Type 0} (f : X → Option Y) (es : List (ℕ × X))
    → length (chosen_entries f es) ≤ length es
fewer_entries f [] = omega arith
fewer_entries f (e ∷ es) =
    one_front e.0 (f e.1) (chosen_entries f es) (length es) (fewer_entries f es)

fewer_chosen : {X Y : Type 0} (f : X → Option Y) (m : FinMap nat_cmp X) → len (chosen f m) ≤ len m
unfolding chosen
fewer_chosen f m =
    let first : len (from_entries {R = nat_cmp} (chosen_entries f (entries m)))
    ≤ length (chosen_entries f (entries m)) = len_from (chosen_entries f (entries m)) in
    let later : length (chosen_entries f (entries m)) ≤ length (entries m) =
    fewer_entries f (entries m) in
    let all : len m ≡ length (entries m) = len-entries m in
    omega arith

pub few_openings : (ps : Processes) (s : Numbers) (n : ℕ)
    → openings (state_of ps s) n ≤ len s.places
few_openings ps s n =
    let low : openings (state_of ps s) n ≤ len (descriptions s) =
    openings_change_lem.most_openings (state_of ps s) n in
    let fewer : len (descriptions s) ≤ len s.places = fewer_chosen description_in s.places in
    omega arith

-- what is kept of a number
pub reserve_at : (s : Numbers) (n : ℕ)
    → get (reserves_of s) n ≡ option_and_then reserve_in (get s.places n)
reserve_at s n = get-chosen reserve_in s.places n

pub reserve_as : (s t : Numbers) (n : ℕ)
    → option_and_then reserve_in (get t.places n) ≡ option_and_then reserve_in (get s.places n)
    → get (reserves_of t) n ≡ get (reserves_of s) n
reserve_as s t n same = reserve_at t n ∙ same ∙ sym (reserve_at s n)

abbrev pub is_file : Option Object → Bool
is_file (Some (A_file file)) = true
is_file _ = false

pub not_file : (opened : Opened) (file : OpenFile)
    → Some (A_description opened) ≡ Some (A_file file) → ⊥
not_file opened file is = true_is_false (sym (ap is_file is))

pub none_held : (object : Object) → None ≡ Some object → ⊥
none_held object is = absurd cc

-- a count of a file's openings changes, or it does not
abbrev pub counted_if : Bool → OpenFile → OpenFile
counted_if true file = more_openings file
counted_if false file = file

pub same_bytes : (b : Bool) (file : OpenFile) → (counted_if b file).bytes ≡ file.bytes
same_bytes true file = refl
same_bytes false file = refl

-- what such a change of a place leaves
module _ (g : OpenFile → OpenFile) where
  pub staged_filed : (o : Option Place) → IsStaged o → IsStaged (option_map (with_file g) o)
  staged_filed None h = h
  staged_filed (Some place) h = by_stage place.stage place.object h
    where
      by_stage : (t : Stage) (object : Object) → FitsStage t object
          → FitsStage t (changed_file g object)
      by_stage t (A_directory listing) h = h
      by_stage t (A_pipe pipe) h = h
      by_stage t (A_fixed fixed) h = h
      by_stage t (A_description opened) h = h
      by_stage t Nothing h = h
      by_stage Coming (A_file file) h = h
      by_stage Held (A_file file) h = λ is. true_is_false (ap (λ o. is_file (Some o)) is)
      by_stage Removed (A_file file) h = h

  pub reserve_filed : (o : Option Place)
      → option_and_then reserve_in (option_map (with_file g) o) ≡ option_and_then reserve_in o
  reserve_filed None = refl
  reserve_filed (Some place) = by_object place.object
    where
      by_object : (object : Object)
          → reserve_in (record { stage = place.stage; object = changed_file g object })
          ≡ reserve_in (record { stage = place.stage; object = object })
      by_object (A_directory listing) = refl
      by_object (A_file file) = refl
      by_object (A_pipe pipe) = refl
      by_object (A_fixed fixed) = refl
      by_object (A_description opened) = refl
      by_object Nothing = refl

  -- a description that is held was held
  pub held_opened : (o : Option Place) (opened : Opened)
      → held (option_map (with_file g) o) ≡ Some (A_description opened)
      → held o ≡ Some (A_description opened)
  held_opened None opened is = is
  held_opened (Some place) opened is = by_stage place.stage place.object is
    where
      by_stage : (t : Stage) (object : Object)
          → if_held t (changed_file g object) ≡ Some (A_description opened)
          → if_held t object ≡ Some (A_description opened)
      by_stage t (A_directory listing) is = is
      by_stage t (A_pipe pipe) is = is
      by_stage t (A_fixed fixed) is = is
      by_stage t (A_description opened) is = is
      by_stage t Nothing is = is
      by_stage Coming (A_file file) is = is
      by_stage Held (A_file file) is = absurd (not_file opened (g file) (sym is))
      by_stage Removed (A_file file) is = is

  -- and a file that is held was one
  pub record HeldBefore (o : Option Place) (file : OpenFile) : Type 0 where
    pub before : OpenFile
    pub held : held o ≡ Some (A_file before)
    pub is : file ≡ g before
    pub count : openings_of (file_in o) ≡ before.openings

  pub held_file : (o : Option Place) (file : OpenFile)
      → held (option_map (with_file g) o) ≡ Some (A_file file) → HeldBefore o file
  held_file None file is = absurd (none_held (A_file file) is)
  held_file (Some place) file is = by_stage place.stage place.object is
    where
      file_is : (it : OpenFile) → Some (A_file it) ≡ Some (A_file file) → file ≡ it
      file_is it is = ap (λ (o : Option Object). or_file o) (sym is)
        where
          or_file : Option Object → OpenFile
          or_file (Some (A_file it)) = it
          or_file _ = file

      by_stage : (t : Stage) (object : Object)
          → if_held t (changed_file g object) ≡ Some (A_file file)
          → HeldBefore (Some (record { stage = t; object = object })) file
      by_stage Coming object is = absurd (none_held (A_file file) is)
      by_stage Removed object is = absurd (none_held (A_file file) is)
      by_stage Held (A_file it) is =
          record { before = it; held = refl; is = file_is (g it) is; count = refl }
      by_stage Held (A_directory listing) is = absurd (true_is_false (ap is_file (sym is)))
      by_stage Held (A_pipe pipe) is = absurd (true_is_false (ap is_file (sym is)))
      by_stage Held (A_fixed fixed) is = absurd (true_is_false (ap is_file (sym is)))
      by_stage Held (A_description opened) is = absurd (not_file opened file is)
      by_stage Held Nothing is = absurd (true_is_false (ap is_file (sym is)))
