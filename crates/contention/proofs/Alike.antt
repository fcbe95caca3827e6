-- Touches that are on one aspect, and both written or both read, are the same touch.
use Rattle.std.proofs.Common.{◌≡◌, ◌∙◌, sym, refl, ap, Bool, true, false, not, ◌&&◌, ◌||◌, ◌==◌, List, [], ◌∷◌, ℕ, if◌then◌else◌, inl, inr}
use Rattle.std.specs.List.{list_any}
use Rattle.std.proofs.lemmas.Bool.{false≢true, eqb-true, eq-eqb, and_parts, and_from, cases_Bool, or_right}
use Rattle.model.specs.Aspects.{Aspect, Entry, Names, Size, Block, Links, Ends, Offset, Front, Back}
use Rattle.model.specs.Aspects.{Target, Rights}
use Rattle.model.specs.Paths.{same_name}
use Rattle.model.specs.Steps.{Touch}
use Rattle.model.specs.Clashes.{same_aspect, has_touch}

abbrev pub touch_on : Aspect → Bool → Touch
touch_on a w = record { aspect = a; write = w }

-- whether u is this very touch
abbrev pub alike : Aspect → Bool → Touch → Bool
alike a w u = same_aspect u.aspect a && (if w then u.write else not u.write)

same_name_itself : (x : List ℕ) → same_name x x ≡ true
same_name_itself [] = refl
same_name_itself (a ∷ x) = and_from (a == a) (same_name x x) (eq-eqb a a refl) (same_name_itself x)

pub aspect_itself : (a : Aspect) → same_aspect a a ≡ true
aspect_itself (Entry d x) = and_from (d == d) (same_name x x) (eq-eqb d d refl) (same_name_itself x)
aspect_itself (Names d) = eq-eqb d d refl
aspect_itself (Size n) = eq-eqb n n refl
aspect_itself (Block n i) = and_from (n == n) (i == i) (eq-eqb n n refl) (eq-eqb i i refl)
aspect_itself (Links n) = eq-eqb n n refl
aspect_itself (Ends p) = eq-eqb p p refl
aspect_itself (Offset d) = eq-eqb d d refl
aspect_itself (Front p) = eq-eqb p p refl
aspect_itself (Back p) = eq-eqb p p refl
aspect_itself (Target p) = eq-eqb p p refl
aspect_itself (Rights p) = eq-eqb p p refl

pub same_name_is : (x y : List ℕ) → same_name x y ≡ true → x ≡ y
same_name_is [] [] h = refl
same_name_is [] (b ∷ y) h = cc
same_name_is (a ∷ x) [] h = cc
same_name_is (a ∷ x) (b ∷ y) h = let p = and_parts (a == b) (same_name x y) h in ap (λ n. n ∷ x) (eqb-true a b p.0) ∙ ap (λ z. b ∷ z) (same_name_is x y p.1)

pub aspect_is : (a b : Aspect) → same_aspect a b ≡ true → a ≡ b
aspect_is (Entry d x) (Entry e y) h = let p = and_parts (d == e) (same_name x y) h in ap (λ n. Entry n x) (eqb-true d e p.0) ∙ ap (Entry e) (same_name_is x y p.1)
aspect_is (Names d) (Names e) h = ap Names (eqb-true d e h)
aspect_is (Size d) (Size e) h = ap Size (eqb-true d e h)
aspect_is (Block d i) (Block e j) h = let p = and_parts (d == e) (i == j) h in ap (λ n. Block n i) (eqb-true d e p.0) ∙ ap (Block e) (eqb-true i j p.1)
aspect_is (Links d) (Links e) h = ap Links (eqb-true d e h)
aspect_is (Ends d) (Ends e) h = ap Ends (eqb-true d e h)
aspect_is (Offset d) (Offset e) h = ap Offset (eqb-true d e h)
aspect_is (Front d) (Front e) h = ap Front (eqb-true d e h)
aspect_is (Back d) (Back e) h = ap Back (eqb-true d e h)
aspect_is (Target d) (Target e) h = ap Target (eqb-true d e h)
aspect_is (Rights d) (Rights e) h = ap Rights (eqb-true d e h)
aspect_is a b h = absurd (false≢true h)

mode_itself : (w : Bool) → (if w then w else not w) ≡ true
mode_itself true = refl
mode_itself false = refl

mode_is : (w v : Bool) → (if w then v else not v) ≡ true → v ≡ w
mode_is true true h = refl
mode_is true false h = cc
mode_is false true h = cc
mode_is false false h = refl

pub alike_itself : (u : Touch) → alike u.aspect u.write u ≡ true
alike_itself u = and_from (same_aspect u.aspect u.aspect) (if u.write then u.write else not u.write) (aspect_itself u.aspect) (mode_itself u.write)

pub alike_is : (a : Aspect) (w : Bool) (u : Touch) → alike a w u ≡ true → u ≡ touch_on a w
alike_is a w u h =
    let p = and_parts (same_aspect u.aspect a) (if w then u.write else not u.write) h in
    ap (λ b. touch_on b u.write) (aspect_is u.aspect a p.0) ∙ ap (touch_on a) (mode_is w u.write p.1)

-- one that is in a list, of which a test is true
pub record Witness {X : Type 0} (p : X → Bool) (xs : List X) : Type 0 where
  pub it : X
  pub passes : p it ≡ true
  pub among : (q : X → Bool) → q it ≡ true → list_any q xs ≡ true

pub witness : {X : Type 0} (p : X → Bool) (xs : List X) → list_any p xs ≡ true → Witness p xs
witness p [] h = absurd (false≢true h)
witness {X} p (x ∷ xs) h = elim (cases_Bool (p x)) [
  | inl e ↦ record { it = x; passes = e; among = λ q k. ap (λ b. b || list_any q xs) k }
  | inr e ↦ let w = witness p xs (ap (λ b. b || list_any p xs) (sym e) ∙ h) in record { it = w.it; passes = w.passes; among = λ q k. or_right (q x) (list_any q xs) (w.among q k) }
]

-- a touch of a list passes a test where the list has one that does
pub has_passes : (p : Touch → Bool) (u : Touch) (us : List Touch) → has_touch u.aspect u.write us ≡ true → p u ≡ true → list_any p us ≡ true
has_passes p u us h e =
    let w = witness (alike u.aspect u.write) us h in
    w.among p (ap p (alike_is u.aspect u.write w.it w.passes) ∙ e)

pub or_none : (b : Bool) → (b || false) ≡ b
or_none true = refl
or_none false = refl

pub iff : (b c : Bool) → (b ≡ true → c ≡ true) → (c ≡ true → b ≡ true) → b ≡ c
iff true c f g = sym (f refl)
iff false true f g = g refl
iff false false f g = refl
