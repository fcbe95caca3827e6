-- The order of touches tells all touches apart, and a touch is told by its aspect and by whether it is written.
use Rattle.std.proofs.Common.{◌≡◌, ◌∙◌, sym, refl, ap, ℕ, Bool, true, false, not, ◌&&◌, ◌==◌, List, [], ◌∷◌, if◌then◌else◌}
use Rattle.std.specs.Ordering.{is_eq}
use Rattle.std.specs.declared.cmp.Ordering.{Ordering}
use Rattle.std.specs.declared.cmp.Ordering.TheVariants.{Less, Equal, Greater}
use Rattle.std.proofs.lemmas.Bool.{false≢true, eqb-true, eq-eqb, and_parts}
use Rattle.std.proofs.lemmas.Cmp.{tied_itself}
use Rattle.std.proofs.lemmas.Map.Lookups.{exact_bytes}
use Rattle.model.specs.Aspects.{Aspect, Entry, Names, Size, Block, Links, Ends, Offset, Front, Back}
use Rattle.model.specs.Aspects.{Target, Rights}
use Rattle.model.specs.Paths.{same_name}
use Rattle.model.specs.Steps.{Touch}
use Rattle.model.specs.Clashes.{same_aspect}
use Rattle.records.specs.Codes.{code, touch_cmp, is_touch}
use Rattle.records.specs.Groups.{alike}
use Rattle.records.specs.Ranges.{touch_on}
use Rattle.records.specs.Marks.{touch_cmp_total}

-- a touch back from its numbers
abbrev aspect_from : ℕ → ℕ → ℕ → List ℕ → Touch
aspect_from o p b x =
    if p == 0 then touch_on (Entry o x) true
    else if p == 1 then touch_on (Entry o x) false
    else if p == 2 then touch_on (Names o) true
    else if p == 3 then touch_on (Names o) false
    else if p == 4 then touch_on (Size o) true
    else if p == 5 then touch_on (Size o) false
    else if p == 6 then touch_on (Block o b) true
    else if p == 7 then touch_on (Block o b) false
    else if p == 8 then touch_on (Links o) true
    else if p == 9 then touch_on (Links o) false
    else if p == 10 then touch_on (Ends o) true
    else if p == 11 then touch_on (Ends o) false
    else if p == 12 then touch_on (Offset o) true
    else if p == 13 then touch_on (Offset o) false
    else if p == 14 then touch_on (Front o) true
    else if p == 15 then touch_on (Front o) false
    else if p == 16 then touch_on (Back o) true
    else if p == 17 then touch_on (Back o) false
    else if p == 18 then touch_on (Target o) true
    else if p == 19 then touch_on (Target o) false
    else if p == 20 then touch_on (Rights o) true
    else touch_on (Rights o) false

abbrev touch_from : List ℕ → Touch
touch_from (o ∷ p ∷ b ∷ x) = aspect_from o p b x
touch_from _ = touch_on (Names 0) false

read_back : (a : Aspect) (w : Bool) → touch_from (code (touch_on a w)) ≡ touch_on a w
read_back (Entry d x) true = refl
read_back (Entry d x) false = refl
read_back (Names d) true = refl
read_back (Names d) false = refl
read_back (Size n) true = refl
read_back (Size n) false = refl
read_back (Block n i) true = refl
read_back (Block n i) false = refl
read_back (Links n) true = refl
read_back (Links n) false = refl
read_back (Ends p) true = refl
read_back (Ends p) false = refl
read_back (Offset d) true = refl
read_back (Offset d) false = refl
read_back (Front p) true = refl
read_back (Front p) false = refl
read_back (Back p) true = refl
read_back (Back p) false = refl
read_back (Target p) true = refl
read_back (Target p) false = refl
read_back (Rights p) true = refl
read_back (Rights p) false = refl

tied_from : (o : Ordering) → is_eq o ≡ true → o ≡ Equal
tied_from Less h = cc
tied_from Equal h = refl
tied_from Greater h = cc

codes_from : (t u : Touch) → touch_cmp t u ≡ Equal → code t ≡ code u
unfolding touch_cmp
codes_from t u h = exact_bytes (code t) (code u) h

pub touch_from_tied : (t u : Touch) → is_touch t u ≡ true → t ≡ u
touch_from_tied t u h = sym (read_back t.aspect t.write) ∙ ap touch_from (codes_from t u (tied_from _ h)) ∙ read_back u.aspect u.write

pub touch_itself : (t : Touch) → is_touch t t ≡ true
touch_itself t = ap is_eq (tied_itself touch_cmp_total t)

same_name_itself : (x : List ℕ) → same_name x x ≡ true
same_name_itself [] = refl
same_name_itself (a ∷ x) = ap (λ b. b && same_name x x) (eq-eqb a a refl) ∙ same_name_itself x

both : (b c : Bool) → b ≡ true → c ≡ true → (b && c) ≡ true
both b c h k = ap (λ x. x && c) h ∙ k

pub aspect_itself : (a : Aspect) → same_aspect a a ≡ true
aspect_itself (Entry d x) = both (d == d) (same_name x x) (eq-eqb d d refl) (same_name_itself x)
aspect_itself (Names d) = eq-eqb d d refl
aspect_itself (Size n) = eq-eqb n n refl
aspect_itself (Block n i) = both (n == n) (i == i) (eq-eqb n n refl) (eq-eqb i i refl)
aspect_itself (Links n) = eq-eqb n n refl
aspect_itself (Ends p) = eq-eqb p p refl
aspect_itself (Offset d) = eq-eqb d d refl
aspect_itself (Front p) = eq-eqb p p refl
aspect_itself (Back p) = eq-eqb p p refl
aspect_itself (Target p) = eq-eqb p p refl
aspect_itself (Rights p) = eq-eqb p p refl

same_name_is : (x y : List ℕ) → same_name x y ≡ true → x ≡ y
same_name_is [] [] h = refl
same_name_is [] (b ∷ y) h = cc
same_name_is (a ∷ x) [] h = cc
same_name_is (a ∷ x) (b ∷ y) h = let p = and_parts (a == b) (same_name x y) h in ap (λ n. n ∷ x) (eqb-true a b p.0) ∙ ap (λ z. b ∷ z) (same_name_is x y p.1)

pub aspect_is : (a b : Aspect) → same_aspect a b ≡ true → a ≡ b
aspect_is (Entry d x) (Entry e y) h = let p = and_parts (d == e) (same_name x y) h in ap (λ n. Entry n x) (eqb-true d e p.0) ∙ ap (Entry e) (same_name_is x y p.1)
aspect_is (Names d) (Names e) h = ap Names (eqb-true d e h)
aspect_is (Size d) (Size e) h = ap Size (eqb-true d e h)
aspect_is (Block d i) (Block e j) h = let p = and_parts (d == e) (i == j) h in ap (λ n. Block n i) (eqb-true d e p.0) ∙ ap (Block e) (eqb-true i j p.1)
aspect_is (Links d) (Links e) h = ap Links (eqb-true d e h)
aspect_is (Ends d) (Ends e) h = ap Ends (eqb-true d e h)
aspect_is (Offset d) (Offset e) h = ap Offset (eqb-true d e h)
aspect_is (Front d) (Front e) h = ap Front (eqb-true d e h)
aspect_is (Back d) (Back e) h = ap Back (eqb-true d e h)
aspect_is (Target d) (Target e) h = ap Target (eqb-true d e h)
aspect_is (Rights d) (Rights e) h = ap Rights (eqb-true d e h)
aspect_is a b h = absurd (false≢true h)

alike_itself : (w : Bool) → alike w w ≡ true
alike_itself true = refl
alike_itself false = refl

alike_is : (w v : Bool) → alike w v ≡ true → w ≡ v
alike_is true true h = refl
alike_is true false h = cc
alike_is false true h = cc
alike_is false false h = refl

pub iff : (b c : Bool) → (b ≡ true → c ≡ true) → (c ≡ true → b ≡ true) → b ≡ c
iff true c f g = sym (f refl)
iff false true f g = g refl
iff false false f g = refl

-- the test by numbers is that by aspects
pub touch_parts : (a : Aspect) (w : Bool) (u : Touch) → is_touch (touch_on a w) u ≡ (same_aspect a u.aspect && alike w u.write)
touch_parts a w u = iff (is_touch (touch_on a w) u) (same_aspect a u.aspect && alike w u.write)
    (λ h. let e = touch_from_tied (touch_on a w) u h in ap (λ (v : Touch). same_aspect a v.aspect && alike w v.write) (sym e) ∙ both (same_aspect a a) (alike w w) (aspect_itself a) (alike_itself w))
    (λ h. let p = and_parts (same_aspect a u.aspect) (alike w u.write) h in ap (λ b. is_touch (touch_on b w) u) (aspect_is a u.aspect p.0) ∙ ap (λ v. is_touch (touch_on u.aspect v) u) (alike_is w u.write p.1) ∙ touch_itself u)

turned : (w v : Bool) → (if v then w else not w) ≡ alike w v
turned true true = refl
turned true false = refl
turned false true = refl
turned false false = refl

-- the test of `has_touch` is that by numbers
pub test_is : (t u : Touch) → (same_aspect t.aspect u.aspect && (if u.write then t.write else not t.write)) ≡ is_touch t u
test_is t u = ap (λ b. same_aspect t.aspect u.aspect && b) (turned t.write u.write) ∙ sym (touch_parts t.aspect t.write u)

-- a touch that passes the test of `has_touch` is the very same
pub touch_from_test : (t u : Touch) → (same_aspect t.aspect u.aspect && (if u.write then t.write else not t.write)) ≡ true → t ≡ u
touch_from_test t u h = touch_from_tied t u (sym (test_is t u) ∙ h)
