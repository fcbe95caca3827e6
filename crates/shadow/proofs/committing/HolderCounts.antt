-- What one slot more or less changes of the counts in a store, and that it changes nothing else.
use Rattle.std.proofs.Common.{◌≡◌, ◌≢◌, ℕ, ◌+◌, ◌-◌, ◌≤◌, ◌^◌, ◌==◌, cond, eq-eqb, ne_eqb, [], ◌∷◌, Option, Some, None, refl, sym, ap, subst, ◌∙◌, arith, inl, inr}
use Rattle.std.specs.Option.{option_and_then, option_map}
use Rattle.std.proofs.lemmas.Bool.{cases_eq}
use Rattle.std.proofs.lemmas.List.Sums.{sum_by-cons}
use Rattle.model.specs.FiniteMap.{get}
use Rattle.call_laws.proofs.Laws.{some_same}
use Rattle.freeing_laws.specs.Counts.{times}
use Rattle.store.specs.Numbers.{Numbers, held, if_held, object_at}
use Rattle.store.specs.Places.{altered, changed_opened, holders_at, holders_of, less_holders, more_holders, opened_in, with_opened}
use Rattle.store.specs.declared.OpenFile.{OpenFile}
use Rattle.store.specs.declared.Opened.{Opened}
use Rattle.store.specs.declared.Place.{Place}
use Rattle.store.specs.declared.Stage.{Stage}
use Rattle.store.specs.declared.Stage.TheVariants.{Coming, Held, Removed}
use Rattle.store.specs.declared.Object.{Object}
use Rattle.store.specs.declared.Object.TheVariants.{Directory as A_directory, File as A_file, Pipe as A_pipe, Fixed as A_fixed, Description as A_description, Nothing}
use Rattle.store.proofs.Laws.{descriptions-opened, get-chosen, inodes-opened, left-altered, place-altered, place-other}
use Rattle.shadow.specs.Stored.{FitsStage, IsStaged, reserve_in}
use Rattle.shadow.specs.Laid.{AreHeld, IsOneLess, IsOneMore, WasHeld}
use Rattle.shadow.proofs.shared.PipePairLemmas.{pipe_by_opened, pipe_stood}

-- the description or the file that an object is
abbrev opened_or : Opened → Option Object → Opened
opened_or other (Some (A_description opened)) = opened
opened_or other _ = other

abbrev shown_file : Option Object → Option OpenFile
shown_file (Some (A_file file)) = Some file
shown_file _ = None

file_of_object : (o : Option Object) (file : OpenFile) → shown_file o ≡ Some file → o ≡ Some (A_file file)
file_of_object (Some (A_file it)) file is = ap (λ (it : OpenFile). Some (A_file it)) (some_same it file is)
file_of_object (Some (A_pipe pipe)) file is = absurd cc
file_of_object (Some (A_fixed fixed)) file is = absurd cc
file_of_object (Some (A_directory listing)) file is = absurd cc
file_of_object (Some (A_description opened)) file is = absurd cc
file_of_object (Some Nothing) file is = absurd cc
file_of_object None file is = absurd cc

-- a description that is shown counts its holders
shown_count : (o : Option Place) (opened : Opened) → held o ≡ Some (A_description opened) → holders_of (opened_in o) ≡ opened.holders
shown_count None opened is = absurd cc
shown_count (Some place) opened is = by_stage place.stage place.object is
  where
    by_stage : (t : Stage) (object : Object) → if_held t object ≡ Some (A_description opened) → holders_of (opened_in (Some (record { stage = t; object = object }))) ≡ opened.holders
    by_stage Coming object is = absurd cc
    by_stage Removed object is = absurd cc
    by_stage Held (A_description it) is = ap (λ o. (opened_or it o).holders) is
    by_stage Held (A_directory listing) is = absurd cc
    by_stage Held (A_file file) is = absurd cc
    by_stage Held (A_pipe pipe) is = absurd cc
    by_stage Held (A_fixed fixed) is = absurd cc
    by_stage Held Nothing is = absurd cc

module _ (R : ℕ → ℕ → ℕ → Type 0) where
  -- where the counts are as they should be already, nothing changes
  pub held_still : (s : Numbers) → ((d : ℕ) (opened : Opened) → object_at s d ≡ Some (A_description opened) → R d opened.holders opened.holders) → AreHeld R s s
  held_still s each = record {
    same = record { root = refl; inodes = refl; rights = refl; staged = λ h n. h n };
    descriptions = refl;
    reserves = λ n. refl;
    files = λ n file is. is;
    pipes = λ p pipe is. is;
    opened = λ d opened is. record { before = opened; held = is; count = each d opened is };
  }

module _ (g : Opened → Opened) where
  staged_opened : (o : Option Place) → IsStaged o → IsStaged (option_map (with_opened g) o)
  staged_opened None h = h
  staged_opened (Some place) h = by_stage place.stage place.object h
    where
      by_stage : (t : Stage) (object : Object) → FitsStage t object → FitsStage t (changed_opened g object)
      by_stage t (A_directory listing) h = h
      by_stage t (A_file file) h = h
      by_stage t (A_pipe pipe) h = h
      by_stage t (A_fixed fixed) h = h
      by_stage t Nothing h = h
      by_stage Coming (A_description opened) h = h
      by_stage Held (A_description opened) h = λ is. absurd cc
      by_stage Removed (A_description opened) h = h

  reserve_opened : (place : Place) → reserve_in (with_opened g place) ≡ reserve_in place
  reserve_opened place = by_object place.object
    where
      by_object : (object : Object) → reserve_in (record { stage = place.stage; object = changed_opened g object }) ≡ reserve_in (record { stage = place.stage; object = object })
      by_object (A_directory listing) = refl
      by_object (A_file file) = refl
      by_object (A_pipe pipe) = refl
      by_object (A_fixed fixed) = refl
      by_object (A_description opened) = refl
      by_object Nothing = refl

  file_opened : (place : Place) → shown_file (held (Some (with_opened g place))) ≡ shown_file (held (Some place))
  file_opened place = by_stage place.stage place.object
    where
      by_stage : (t : Stage) (object : Object) → shown_file (if_held t (changed_opened g object)) ≡ shown_file (if_held t object)
      by_stage Coming object = refl
      by_stage Removed object = refl
      by_stage Held (A_directory listing) = refl
      by_stage Held (A_file file) = refl
      by_stage Held (A_pipe pipe) = refl
      by_stage Held (A_fixed fixed) = refl
      by_stage Held (A_description opened) = refl
      by_stage Held Nothing = refl

  -- a description that is shown was shown, and is what g makes of it
  record Before (o : Option Place) (opened : Opened) : Type 0 where
    before : Opened
    held : held o ≡ Some (A_description before)
    is : opened ≡ g before

  before_opened : (o : Option Place) (opened : Opened) → held (option_map (with_opened g) o) ≡ Some (A_description opened) → Before o opened
  before_opened None opened is = absurd cc
  before_opened (Some place) opened is = by_stage place.stage place.object is
    where
      by_stage : (t : Stage) (object : Object) → if_held t (changed_opened g object) ≡ Some (A_description opened) → Before (Some (record { stage = t; object = object })) opened
      by_stage Coming object is = absurd cc
      by_stage Removed object is = absurd cc
      by_stage Held (A_description it) is = record { before = it; held = refl; is = sym (ap (opened_or (g it)) is) }
      by_stage Held (A_directory listing) is = absurd cc
      by_stage Held (A_file file) is = absurd cc
      by_stage Held (A_pipe pipe) is = absurd cc
      by_stage Held (A_fixed fixed) is = absurd cc
      by_stage Held Nothing is = absurd cc

  module _ (same : (opened : Opened) → (g opened).description ≡ opened.description) (R : ℕ → ℕ → ℕ → Type 0) (s : Numbers) (d : ℕ)
      (here : (before : Opened) → object_at s d ≡ Some (A_description before) → R d before.holders (g before).holders) (away : (e count : ℕ) → e ≢ d → R e count count) where
    abbrev after : Numbers
    after = altered (with_opened g) s d

    staged_after : ((n : ℕ) → IsStaged (get s.places n)) → (n : ℕ) → IsStaged (get after.places n)
    staged_after h n = elim (cases_eq n d) [
      | inl is ↦ subst (λ n. IsStaged (get after.places n)) (sym is) (subst IsStaged (sym (place-altered (with_opened g) s d)) (staged_opened (get s.places d) (h d)))
      | inr other ↦ subst IsStaged (sym (place-other (with_opened g) s d n other)) (h n)
    ]

    was_held : (e : ℕ) (opened : Opened) → object_at after e ≡ Some (A_description opened) → WasHeld (R e) s e opened
    was_held e opened is = elim (cases_eq e d) [
      | inl at ↦ subst (λ e. WasHeld (R e) s e opened) (sym at) (was_here (before_opened (get s.places d) opened (ap held (sym (place-altered (with_opened g) s d)) ∙ ap (object_at after) (sym at) ∙ is)))
      | inr other ↦ record { before = opened; held = ap held (sym (place-other (with_opened g) s d e other)) ∙ is; count = away e opened.holders other }
    ]
      where
        was_here : Before (get s.places d) opened → WasHeld (R d) s d opened
        was_here was = record {
          before = was.before;
          held = was.held;
          count = subst (λ (it : Opened). R d was.before.holders it.holders) (sym was.is) (here was.before was.held);
        }

    pub held_at : AreHeld R s after
    held_at = record {
      same = record { root = refl; inodes = inodes-opened g s d; rights = refl; staged = staged_after };
      descriptions = descriptions-opened g same s d;
      reserves = λ n. get-chosen reserve_in after.places n ∙ left-altered (λ o. option_and_then reserve_in o) (with_opened g) reserve_opened s d n ∙ sym (get-chosen reserve_in s.places n);
      files = λ n file is. file_of_object (object_at s n) file (sym (left-altered (λ o. shown_file (held o)) (with_opened g) file_opened s d n) ∙ ap shown_file is);
      pipes = pipe_stood (with_opened g) (pipe_by_opened g) s d;
      opened = was_held;
    }

-- how often a number stands in a list of one
pub once_here : (d : ℕ) → times d (d ∷ []) ≡ 1
once_here d =
    let sum : times d (d ∷ []) ≡ cond {A = ℕ} (d == d) 1 0 + times d [] = sum_by-cons (λ v. cond {A = ℕ} (v == d) 1 0) d [] in
    let one : cond {A = ℕ} (d == d) 1 0 ≡ 1 = ap (λ b. cond {A = ℕ} b 1 0) (eq-eqb d d refl) in
    omega arith

never_there : (d e : ℕ) → e ≢ d → times e (d ∷ []) ≡ 0
never_there d e away =
    let sum : times e (d ∷ []) ≡ cond {A = ℕ} (d == e) 1 0 + times e [] = sum_by-cons (λ v. cond {A = ℕ} (v == e) 1 0) d [] in
    let none : cond {A = ℕ} (d == e) 1 0 ≡ 0 = ap (λ b. cond {A = ℕ} b 1 0) (ne_eqb d e (λ is. away (sym is))) in
    omega arith

-- one slot more, one slot less, and none
pub held_more : (s : Numbers) (d : ℕ) → AreHeld (IsOneMore (Some d)) s (altered (with_opened more_holders) s d)
held_more s d = held_at more_holders (λ opened. refl) (IsOneMore (Some d)) s d
    (λ before is fits. ap (λ n. before.holders + n) (sym (once_here d)))
    (λ e count other fits. let none : times e (d ∷ []) ≡ 0 = never_there d e other in omega arith)

pub held_less : (s : Numbers) (d : ℕ) → AreHeld (IsOneLess (Some d)) s (altered (with_opened less_holders) s d)
held_less s d = held_at less_holders (λ opened. refl) (IsOneLess (Some d)) s d
    (λ before is. ap (λ n. before.holders - n) (sym (once_here d)))
    (λ e count other. let none : times e (d ∷ []) ≡ 0 = never_there d e other in omega arith)

pub held_none_more : (s : Numbers) → AreHeld (IsOneMore None) s s
held_none_more s = held_still (IsOneMore None) s (λ d opened is fits. omega arith)

pub held_none_less : (s : Numbers) → AreHeld (IsOneLess None) s s
held_none_less s = held_still (IsOneLess None) s (λ d opened is. omega arith)

-- where the count is full already
pub held_full : (s : Numbers) (d : ℕ) → 2 ^ 128 ≤ holders_at s d + 1 → AreHeld (IsOneMore (Some d)) s s
held_full s d full = held_still (IsOneMore (Some d)) s (λ e opened is fits. elim (cases_eq e d) [
  | inl at ↦ absurd (let count : holders_at s d ≡ opened.holders = ap (holders_at s) (sym at) ∙ shown_count (get s.places e) opened is in
      let one : times e (d ∷ []) ≡ 1 = ap (λ e. times e (d ∷ [])) at ∙ once_here d in omega arith)
  | inr other ↦ (let none : times e (d ∷ []) ≡ 0 = never_there d e other in omega arith)
])
