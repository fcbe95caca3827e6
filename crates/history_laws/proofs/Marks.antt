-- The list mode of a directory follows from whether it has readers and writers.
use Rattle.std.proofs.Common.{◌≡◌, ℕ, List, [], ◌∷◌, refl, sym, ◌∙◌, ap, true, false, Bool, inl, inr}
use Rattle.std.specs.Prelude.{◌||◌, ◌&&◌, if◌then◌else◌}
use Rattle.std.specs.List.{list_any}
use Rattle.std.proofs.lemmas.Bool.{cases_Bool, cases_eq, or_cases, and_parts, or_left, or_right, both_ways, false≢true, eqb-true, eq-eqb}
use Rattle.model.specs.Aspects.{Aspect, Entry, Names}
use Rattle.model.specs.Steps.{Touch}
use Rattle.model.specs.Clashes.{same_aspect, names_against, clash}
use Rattle.model.specs.Moments.{Moment, after, bound, all_below, calls_at, held_by, loose_touches}
use Rattle.model.specs.Modes.{NoTx, Read, Write, Exclusive, reads_names, writes_entry, is_reader, is_writer, any_below, mode_of}
use Rattle.call_laws.specs.WellFormed.{WellFormed}
use Rattle.call_laws.specs.CallLaws.{CallLaws}
use Rattle.history_laws.proofs.FromCallLaws.{FromCallLaws}
use Rattle.history_laws.specs.Marks.{has_readers, has_writers, mode_by, ModesFollowMarks}
use Rattle.history_laws.proofs.Membership.{In}
use Rattle.history_laws.proofs.lists.Touches.{IsPlain}
use Rattle.history_laws.proofs.lists.UntidiedRuns.{goes_plain}
use Rattle.history_laws.proofs.entries.Moments.{Sound, held_is}
use Rattle.history_laws.proofs.Standing.{sound_legal}

-- one that passes a test
pub record Passing {A : Type 0} (test : A → Bool) (xs : List A) : Type 0 where
  pub it : A
  pub among : In it xs
  pub passes : test it ≡ true

pub passing : {A : Type 0} (test : A → Bool) (xs : List A) → list_any test xs ≡ true → Passing test xs
passing test [] h = absurd (false≢true h)
passing test (x ∷ xs) h = elim (or_cases (test x) (list_any test xs) h) [
  | inl here ↦ record { it = x; among = inl refl; passes = here }
  | inr later ↦ (let found = passing test xs later in record { it = found.it; among = inr found.among; passes = found.passes })
]

pub passed : {A : Type 0} (test : A → Bool) (xs : List A) (x : A) → In x xs → test x ≡ true → list_any test xs ≡ true
passed test [] x i h = absurd i
passed test (y ∷ xs) x i h = elim i [
  | inl same ↦ ap (λ b. b || list_any test xs) (ap test (sym same) ∙ h)
  | inr rest ↦ or_right (test y) (list_any test xs) (passed test xs x rest h)
]

module _ (d : ℕ) where
  against : (a b : Aspect) (v : Bool) → reads_names d a ≡ true → writes_entry d b v ≡ true → names_against a false b v ≡ true
  against (Names e) (Entry f x) true h g = eq-eqb e f (sym (eqb-true d e h) ∙ eqb-true d f g)
  against (Names e) b v h g = absurd (false≢true g)
  against a b v h g = absurd (false≢true h)

  names_of : (a : Aspect) → reads_names d a ≡ true → a ≡ Names d
  names_of (Names e) h = ap Names (sym (eqb-true d e h))
  names_of a h = absurd (false≢true h)

  -- reading names clashes with writing an entry
  they_clash : (t u : Touch) → IsPlain t → reads_names d t.aspect ≡ true → writes_entry d u.aspect u.write ≡ true → clash t u ≡ true
  they_clash t u plain reads writes = or_right (same_aspect t.aspect u.aspect && (t.write || u.write)) _ (or_left (names_against t.aspect t.write u.aspect u.write) _
      (ap (λ b. names_against t.aspect b u.aspect u.write) (plain d (names_of t.aspect reads)) ∙ against t.aspect u.aspect u.write reads writes))

  -- so a reader and a writer are one
  module _ (m : Moment) (sound : Sound WellFormed m) (laws : CallLaws WellFormed) where
    abbrev reads : ℕ → Bool
    reads q = is_reader d (held_by m q)

    abbrev writes : ℕ → Bool
    writes q = is_writer d (held_by m q)

    one : (p q : ℕ) → reads p ≡ true → writes q ≡ true → p ≡ q
    one p q is_read is_written = elim (cases_eq p q) [
      | inl same ↦ same
      | inr ne ↦
          let t = passing (λ t. reads_names d t.aspect) (loose_touches p (calls_at m p) m.committed) (ap (is_reader d) (sym (held_is WellFormed laws m sound p)) ∙ is_read) in
          let u = passing (λ t. writes_entry d t.aspect t.write) (loose_touches q (calls_at m q) m.committed) (ap (is_writer d) (sym (held_is WellFormed laws m sound q)) ∙ is_written) in
          absurd (both_ways (clash t.it u.it) (sound.lists.peace p q ne t.it u.it t.among u.among) (they_clash t.it u.it (goes_plain p m.committed (calls_at m p) t.it t.among) t.passes u.passes))
    ]

    both : list_any (λ q. reads q && writes q) (all_below (λ q. true) (bound m)) ≡ (has_readers m d && has_writers m d)
    both = elim (cases_Bool (has_readers m d)) [
      | inr no_reader ↦ elim (cases_Bool (any_below (λ q. reads q && writes q) (bound m))) [
        | inr none ↦ none ∙ sym (ap (λ b. b && has_writers m d) no_reader)
        | inl some ↦ (let found = passing (λ q. reads q && writes q) _ some in absurd (both_ways (has_readers m d) no_reader (passed reads _ found.it found.among (and_parts (reads found.it) _ found.passes).0)))
      ]
      | inl reader ↦ elim (cases_Bool (has_writers m d)) [
        | inr no_writer ↦ elim (cases_Bool (any_below (λ q. reads q && writes q) (bound m))) [
          | inr none ↦ none ∙ sym (ap (λ b. b && has_writers m d) reader ∙ no_writer)
          | inl some ↦ (let found = passing (λ q. reads q && writes q) _ some in absurd (both_ways (has_writers m d) no_writer (passed writes _ found.it found.among (and_parts (reads found.it) _ found.passes).1)))
        ]
        | inl writer ↦
            let r = passing reads _ reader in
            let w = passing writes _ writer in
            let same : r.it ≡ w.it = one r.it w.it r.passes w.passes in
            passed (λ q. reads q && writes q) _ r.it r.among (ap (λ b. b && writes r.it) r.passes ∙ ap writes same ∙ w.passes) ∙ sym (ap (λ b. b && has_writers m d) reader ∙ writer)
      ]
    ]

    pub mode_is : mode_of m d ≡ mode_by (has_readers m d) (has_writers m d)
    mode_is = ap (λ x. if x then Exclusive else if has_writers m d then Write else if has_readers m d then Read else NoTx) both ∙ by (has_readers m d) (has_writers m d) where
      by : (r w : Bool) → (if r && w then Exclusive else if w then Write else if r then Read else NoTx) ≡ mode_by r w
      by true true = refl
      by true false = refl
      by false true = refl
      by false false = refl

pub modes_follow_marks : FromCallLaws ModesFollowMarks
modes_follow_marks laws root setup limit es legal d = mode_is d (after root setup es) (sound_legal laws root setup limit es legal) laws
