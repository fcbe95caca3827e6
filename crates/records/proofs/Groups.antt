-- Processes in a list, each once, as one is added or taken out.
use Rattle.std.proofs.Common.{◌≡◌, ◌∙◌, sym, refl, ap, ℕ, Bool, true, false, cond, not, ◌||◌, ◌==◌, List, [], ◌∷◌, ◌++◌, filter, inl, inr, if◌then◌else◌, subst}
use Rattle.std.specs.List.Retain.{RetainsInTurn}
use Rattle.std.proofs.lemmas.Bool.{cases_eq, eq-eqb, ne_eqb, eqb-true, false≢true}
use Rattle.std.proofs.lemmas.List.Folds.{list_any-append}
use Rattle.records.specs.Groups.{among, AreDistinct, with_pid, without_pid}

or_last : (a b : Bool) → (a || (b || false)) ≡ (b || a)
or_last true true = refl
or_last true false = refl
or_last false true = refl
or_last false false = refl

among_push : (q p : ℕ) (ps : List ℕ) → among q (ps ++ p ∷ []) ≡ ((p == q) || among q ps)
among_push q p ps = list_any-append (λ x. x == q) ps (p ∷ []) ∙ or_last (among q ps) (p == q)

there_already : (p q : ℕ) (ps : List ℕ) (b : Bool) → (p == q) ≡ b → among p ps ≡ true → among q ps ≡ (b || among q ps)
there_already p q ps true e h = ap (λ x. among x ps) (sym (eqb-true p q e)) ∙ h
there_already p q ps false e h = refl

with_test : (q p : ℕ) (ps : List ℕ) (b : Bool) → among p ps ≡ b → among q (if b then ps else ps ++ p ∷ []) ≡ ((p == q) || among q ps)
with_test q p ps true h = there_already p q ps (p == q) refl h
with_test q p ps false h = among_push q p ps

pub among_with : (q p : ℕ) (ps : List ℕ) → among q (with_pid p ps) ≡ ((p == q) || among q ps)
among_with q p ps = with_test q p ps (among p ps) refl

among_kept : (q x : ℕ) (ps : List ℕ) (b : Bool) → among q (if not b then x ∷ ps else ps) ≡ cond b (among q ps) ((x == q) || among q ps)
among_kept q x ps true = refl
among_kept q x ps false = refl

-- whether a process is left where another went
left_by : (q p x : ℕ) (r b c : Bool) → (x == p) ≡ b → (p == q) ≡ c → cond b (cond c false r) ((x == q) || cond c false r) ≡ cond c false ((x == q) || r)
left_by q p x r true true e f = refl
left_by q p x r true false e f = ap (λ v. v || r) (sym (ap (λ y. y == q) (eqb-true x p e) ∙ f))
left_by q p x r false true e f = ap (λ v. v || false) (sym (ap (λ y. x == y) (eqb-true p q f)) ∙ e)
left_by q p x r false false e f = refl

pub among_without : (q p : ℕ) (ps : List ℕ) → among q (without_pid p ps) ≡ cond (p == q) false (among q ps)
among_without q p [] = elim (p == q) as (λ b. false ≡ cond b false false) [ true ↦ refl | false ↦ refl ]
among_without q p (x ∷ ps) =
    among_kept q x (without_pid p ps) (x == p)
    ∙ ap (λ v. cond (x == p) v ((x == q) || v)) (among_without q p ps)
    ∙ left_by q p x (among q ps) (x == p) (p == q) refl refl

-- each still stands once
distinct_push : (p : ℕ) (ps : List ℕ) → AreDistinct ps → among p ps ≡ false → AreDistinct (ps ++ p ∷ [])
distinct_push p [] once none = (refl, tt)
distinct_push p (x ∷ ps) once none = (among_push x p ps ∙ ap (λ b. b || among x ps) (turned p x none) ∙ once.0, distinct_push p ps once.1 (right_of (x == p) (among p ps) none)) where
  right_of : (a b : Bool) → (a || b) ≡ false → b ≡ false
  right_of false b h = h
  right_of true b h = cc

  left_of : (a b : Bool) → (a || b) ≡ false → a ≡ false
  left_of false b h = refl
  left_of true b h = cc

  turned : (p x : ℕ) → among p (x ∷ ps) ≡ false → (p == x) ≡ false
  turned p x h = elim (cases_eq p x) [
    | inl e ↦ absurd (false≢true (sym (left_of (x == p) (among p ps) h) ∙ eq-eqb x p (sym e)))
    | inr ne ↦ ne_eqb p x ne
  ]

distinct_by : (p : ℕ) (ps : List ℕ) (b : Bool) → among p ps ≡ b → AreDistinct ps → AreDistinct (if b then ps else ps ++ p ∷ [])
distinct_by p ps true h once = once
distinct_by p ps false h once = distinct_push p ps once h

pub distinct_with : (p : ℕ) (ps : List ℕ) → AreDistinct ps → AreDistinct (with_pid p ps)
distinct_with p ps once = distinct_by p ps (among p ps) refl once

none_left : (b : Bool) → cond b false false ≡ false
none_left true = refl
none_left false = refl

distinct_kept : (x : ℕ) (ps : List ℕ) (b : Bool) → among x ps ≡ false → AreDistinct ps → AreDistinct (if b then x ∷ ps else ps)
distinct_kept x ps true h once = (h, once)
distinct_kept x ps false h once = once

pub distinct_without : (p : ℕ) (ps : List ℕ) → AreDistinct ps → AreDistinct (without_pid p ps)
distinct_without p [] once = tt
distinct_without p (x ∷ ps) once = distinct_kept x (without_pid p ps) (not (x == p)) (among_without x p ps ∙ ap (cond (p == x) false) once.0 ∙ none_left (p == x)) (distinct_without p ps once.1)

-- What a test leaves that changes neither itself nor an element.
pub left_by_test : {X F : Type 0} (R : F → X → Bool → F → X → Type 0) (test : X → Bool) (f : F)
    → ((x : X) (b : Bool) (g : F) (y : X) → R f x b g y → (b ≡ test x) × (g ≡ f) × (y ≡ x))
    → (xs ys : List X) → RetainsInTurn R f xs ys → ys ≡ filter test xs
left_by_test R test f says [] ys none = none
left_by_test R test f says (x ∷ xs) ys kept =
    let said = says x kept.0 kept.1 kept.2 kept.3 in
    let rest = left_by_test R test f says xs kept.4 (subst (λ g. RetainsInTurn R g xs kept.4) said.1 kept.5) in
    kept.6 ∙ (λ i. cond (said.0 i) (said.2 i ∷ rest i) (rest i))
