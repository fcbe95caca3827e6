-- The least name among the written entries of a directory is told by which entries are written.
use Rattle.std.proofs.Common.{◌≡◌, ◌∙◌, sym, refl, ap, subst, Bool, true, false, ◌&&◌, ◌||◌, ◌==◌, List, [], ◌∷◌, Option, Some, None, ℕ, if◌then◌else◌, inl, inr, arith}
use Rattle.std.proofs.lemmas.Bool.{true≢false, eqb-true, and_parts, and_left, and_right, cases_Bool, or_cases, or_left, or_right, or_from, both_ways}
use Rattle.std.proofs.lemmas.Bool.Decides.{nat_tests}
use Rattle.model.specs.State.{Name}
use Rattle.model.specs.Aspects.{Aspect, Entry, Names, Size, Block, Links, Ends, Offset, Front, Back}
use Rattle.model.specs.Aspects.{Target, Rights}
use Rattle.model.specs.Paths.{same_name}
use Rattle.model.specs.Steps.{Touch}
use Rattle.model.specs.Clashes.{has_touch, name_lt, lesser, written_name, with_name, least_written}
use Rattle.contention.proofs.Alike.{touch_on, alike, alike_itself, same_name_is}

pub lt_itself : (x : Name) → name_lt x x ≡ false
lt_itself [] = refl
lt_itself (a ∷ x) = let h = lt_itself x in grind (arith, nat_tests)

pub lt_turned : (x y : Name) → name_lt x y ≡ true → name_lt y x ≡ false
lt_turned [] [] h = refl
lt_turned [] (b ∷ y) h = refl
lt_turned (a ∷ x) [] h = cc
lt_turned (a ∷ x) (b ∷ y) h = elim (cases_Bool (name_lt x y)) [
  | inl e ↦ let f = lt_turned x y e in grind (arith, nat_tests)
  | inr e ↦ grind (arith, nat_tests)
]

pub not_lt_trans : (x y z : Name) → name_lt x y ≡ false → name_lt y z ≡ false → name_lt x z ≡ false
not_lt_trans [] y [] e f = refl
not_lt_trans (a ∷ x) y [] e f = refl
not_lt_trans [] [] (c ∷ z) e f = absurd (true≢false f)
not_lt_trans [] (b ∷ y) (c ∷ z) e f = absurd (true≢false e)
not_lt_trans (a ∷ x) [] (c ∷ z) e f = absurd (true≢false f)
not_lt_trans (a ∷ x) (b ∷ y) (c ∷ z) e f = elim (cases_Bool (name_lt x y)) [
  | inl g ↦ grind (arith, nat_tests)
  | inr g ↦ elim (cases_Bool (name_lt y z)) [
    | inl h ↦ grind (arith, nat_tests)
    | inr h ↦ let k = not_lt_trans x y z g h in grind (arith, nat_tests)
  ]
]

pub lt_neither : (x y : Name) → name_lt x y ≡ false → name_lt y x ≡ false → x ≡ y
lt_neither [] [] e f = refl
lt_neither [] (b ∷ y) e f = absurd (true≢false e)
lt_neither (a ∷ x) [] e f = absurd (true≢false f)
lt_neither (a ∷ x) (b ∷ y) e f =
    let same : a ≡ b = grind (arith, nat_tests) in
    let g : name_lt x y ≡ false = grind (arith, nat_tests) in
    let h : name_lt y x ≡ false = grind (arith, nat_tests) in
    ap (λ n. n ∷ x) same ∙ ap (λ z. b ∷ z) (lt_neither x y g h)

-- the name is of a written entry, and no other is less
abbrev pub IsLeast : ℕ → List Touch → Option Name → Type 0
IsLeast d us None = (y : Name) → has_touch (Entry d y) true us ≡ false
IsLeast d us (Some x) = (has_touch (Entry d x) true us ≡ true) × ((y : Name) → has_touch (Entry d y) true us ≡ true → name_lt y x ≡ false)

-- a touch that is no written entry of the directory changes nothing
least_kept : (d : ℕ) (u : Touch) (us : List Touch) (o : Option Name) → ((y : Name) → alike (Entry d y) true u ≡ false) → IsLeast d us o → IsLeast d (u ∷ us) o
least_kept d u us None apart least = λ y. or_from (alike (Entry d y) true u) (has_touch (Entry d y) true us) (apart y) (least y)
least_kept d u us (Some x) apart least = (
  or_right (alike (Entry d x) true u) (has_touch (Entry d x) true us) least.0,
  λ y h. least.1 y (ap (λ b. b || has_touch (Entry d y) true us) (sym (apart y)) ∙ h),
)

-- a written entry comes before the rest
entry_name : (d e : ℕ) (x y : Name) → alike (Entry d y) true (touch_on (Entry e x) true) ≡ true → x ≡ y
entry_name d e x y h = same_name_is x y (and_parts (e == d) (same_name x y) (and_parts ((e == d) && same_name x y) true h).0).1

entry_itself : (d : ℕ) (x : Name) → alike (Entry d x) true (touch_on (Entry d x) true) ≡ true
entry_itself d x = alike_itself (touch_on (Entry d x) true)

least_first : (d : ℕ) (x : Name) (us : List Touch) (o : Option Name) → IsLeast d us o → IsLeast d (touch_on (Entry d x) true ∷ us) (Some (lesser x o))
least_first d x us None least = (
  or_left (alike (Entry d x) true (touch_on (Entry d x) true)) (has_touch (Entry d x) true us) (entry_itself d x),
  λ y h. elim (or_cases (alike (Entry d y) true (touch_on (Entry d x) true)) (has_touch (Entry d y) true us) h) [
    | inl here ↦ ap (λ z. name_lt z x) (sym (entry_name d d x y here)) ∙ lt_itself x
    | inr there ↦ absurd (both_ways _ (least y) there)
  ],
)
least_first d x us (Some z) least = elim (cases_Bool (name_lt z x)) [
  | inl e ↦ subst (λ n. IsLeast d (touch_on (Entry d x) true ∷ us) (Some n)) (sym (ap (λ b. if b then z else x) e)) (
    or_right (alike (Entry d z) true (touch_on (Entry d x) true)) (has_touch (Entry d z) true us) least.0,
    λ y h. elim (or_cases (alike (Entry d y) true (touch_on (Entry d x) true)) (has_touch (Entry d y) true us) h) [
      | inl here ↦ ap (λ n. name_lt n z) (sym (entry_name d d x y here)) ∙ lt_turned z x e
      | inr there ↦ least.1 y there
    ],
  )
  | inr e ↦ subst (λ n. IsLeast d (touch_on (Entry d x) true ∷ us) (Some n)) (sym (ap (λ b. if b then z else x) e)) (
    or_left (alike (Entry d x) true (touch_on (Entry d x) true)) (has_touch (Entry d x) true us) (entry_itself d x),
    λ y h. elim (or_cases (alike (Entry d y) true (touch_on (Entry d x) true)) (has_touch (Entry d y) true us) h) [
      | inl here ↦ ap (λ n. name_lt n x) (sym (entry_name d d x y here)) ∙ lt_itself x
      | inr there ↦ not_lt_trans y z x (least.1 y there) e
    ],
  )
]

least_more : (d : ℕ) (a : Aspect) (w : Bool) (us : List Touch) (o : Option Name) → IsLeast d us o → IsLeast d (touch_on a w ∷ us) (with_name (written_name d a w) o)
least_more d (Entry e x) true us o least = elim (cases_Bool (e == d)) [
  | inl h ↦ rw h (subst (λ n. IsLeast d (touch_on (Entry n x) true ∷ us) (Some (lesser x o))) (sym (eqb-true e d h)) (least_first d x us o least))
  | inr h ↦ rw h (least_kept d (touch_on (Entry e x) true) us o (λ y. and_left ((e == d) && same_name x y) true (and_left (e == d) (same_name x y) h)) least)
]
least_more d (Entry e x) false us o least = least_kept d (touch_on (Entry e x) false) us o (λ y. and_right ((e == d) && same_name x y) false refl) least
least_more d (Names n) w us o least = least_kept d (touch_on (Names n) w) us o (λ y. refl) least
least_more d (Size n) w us o least = least_kept d (touch_on (Size n) w) us o (λ y. refl) least
least_more d (Block n i) w us o least = least_kept d (touch_on (Block n i) w) us o (λ y. refl) least
least_more d (Links n) w us o least = least_kept d (touch_on (Links n) w) us o (λ y. refl) least
least_more d (Ends n) w us o least = least_kept d (touch_on (Ends n) w) us o (λ y. refl) least
least_more d (Offset n) w us o least = least_kept d (touch_on (Offset n) w) us o (λ y. refl) least
least_more d (Front n) w us o least = least_kept d (touch_on (Front n) w) us o (λ y. refl) least
least_more d (Back n) w us o least = least_kept d (touch_on (Back n) w) us o (λ y. refl) least
least_more d (Target n) w us o least = least_kept d (touch_on (Target n) w) us o (λ y. refl) least
least_more d (Rights n) w us o least = least_kept d (touch_on (Rights n) w) us o (λ y. refl) least

pub least_is : (d : ℕ) (us : List Touch) → IsLeast d us (least_written d us)
least_is d [] = λ y. refl
least_is d (u ∷ us) = least_more d u.aspect u.write us (least_written d us) (least_is d us)

pub least_one : (d : ℕ) (us : List Touch) (o p : Option Name) → IsLeast d us o → IsLeast d us p → o ≡ p
least_one d us None None a b = refl
least_one d us None (Some y) a b = absurd (both_ways _ (a y) b.0)
least_one d us (Some x) None a b = absurd (both_ways _ (b x) a.0)
least_one d us (Some x) (Some y) a b = ap Some (lt_neither x y (b.1 x a.0) (a.1 y b.0))

-- so lists with the same written entries have the same least name
least_moved : (d : ℕ) (us vs : List Touch) (o : Option Name) → ((y : Name) → has_touch (Entry d y) true us ≡ has_touch (Entry d y) true vs) → IsLeast d us o → IsLeast d vs o
least_moved d us vs None same least = λ y. sym (same y) ∙ least y
least_moved d us vs (Some x) same least = (sym (same x) ∙ least.0, λ y h. least.1 y (same y ∙ h))

pub least_same : (d : ℕ) (us vs : List Touch) → ((y : Name) → has_touch (Entry d y) true us ≡ has_touch (Entry d y) true vs) → least_written d us ≡ least_written d vs
least_same d us vs same = least_one d vs (least_written d us) (least_written d vs) (least_moved d us vs (least_written d us) same (least_is d us)) (least_is d vs)
