-- Marks of which each stands once.
use Rattle.std.proofs.Common.{◌≡◌, ◌∙◌, sym, refl, ap, ℕ, Bool, true, false, not, ◌&&◌, ◌||◌, ◌==◌, List, [], ◌∷◌, ◌++◌, filter, if◌then◌else◌}
use Rattle.std.specs.Prelude.{⊤}
use Rattle.std.proofs.Math.Path.{fun_ext}
use Rattle.std.specs.List.{list_any}
use Rattle.std.proofs.lemmas.Bool.{eqb-true, and_parts, eq-eqb}
use Rattle.std.proofs.lemmas.Cmp.{eq_by_cmp_equiv, nat_eq_equiv}
use Rattle.std.proofs.lemmas.List.Folds.{list_any-append}
use Rattle.model.specs.Steps.{Touch}
use Rattle.model.specs.Clashes.{same_aspect, has_touch}
use Rattle.records.specs.Codes.{is_touch}
use Rattle.records.specs.Groups.{among, AreDistinct}
use Rattle.records.specs.Marks.{mark_of, touch_cmp_total}
use Rattle.records.specs.Ranges.{marks_with}
use Rattle.records.specs.Holders.{has_mark, AreEachOnce}
use Rattle.records.specs.declared.mark.Mark.{Mark}
use Rattle.records.proofs.Exact.{touch_from_tied, touch_itself, test_is}

-- whether they are the same touch of the same process
abbrev pub is_mark : Mark → Mark → Bool
is_mark m k = is_touch m.touch k.touch && (m.pid == k.pid)

abbrev pub is_found : Mark → List Mark → Bool
is_found m found = list_any (is_mark m) found

mark_from : (m k : Mark) → is_mark m k ≡ true → m ≡ k
mark_from m k h = let p = and_parts (is_touch m.touch k.touch) (m.pid == k.pid) h in ap (λ t. mark_of m.pid t) (touch_from_tied m.touch k.touch p.0) ∙ ap (λ n. mark_of n k.touch) (eqb-true m.pid k.pid p.1)

any_in : (p q : Mark → Bool) (ks : List Mark) → list_any p (filter q ks) ≡ list_any (λ k. q k && p k) ks
any_in p q [] = refl
any_in p q (k ∷ ks) = elim (q k) as (λ b. list_any p (if b then k ∷ filter q ks else filter q ks) ≡ ((b && p k) || list_any (λ k. q k && p k) ks)) [ true ↦ ap (λ b. p k || b) (any_in p q ks) | false ↦ any_in p q ks ]

pub and_false : (b : Bool) → (b && false) ≡ false
and_false true = refl
and_false false = refl

with_it : (a r : Bool) → ((a && true) || (a && r)) ≡ (a && true)
with_it true r = refl
with_it false r = refl

without_it : (a b r : Bool) → ((a && false) || (b && r)) ≡ (b && r)
without_it true b r = refl
without_it false b r = refl

here : (m k : Mark) (q : Mark → Bool) (r : Bool) (b : Bool) → is_mark m k ≡ b → ((q k && b) || (q m && r)) ≡ (q m && (b || r))
here m k q r true h = ap (λ x. (q x && true) || (q m && r)) (sym (mark_from m k h)) ∙ with_it (q m) r
here m k q r false h = without_it (q k) (q m) r

at_one : (m : Mark) (q : Mark → Bool) (ks : List Mark) → list_any (λ k. q k && is_mark m k) ks ≡ (q m && is_found m ks)
at_one m q [] = sym (and_false (q m))
at_one m q (k ∷ ks) = ap (λ b. (q k && is_mark m k) || b) (at_one m q ks) ∙ here m k q (is_found m ks) (is_mark m k) refl

pub found_in : (m : Mark) (q : Mark → Bool) (ks : List Mark) → is_found m (filter q ks) ≡ (q m && is_found m ks)
found_in m q ks = any_in (is_mark m) q ks ∙ at_one m q ks

and_turned : (a b : Bool) → (a && (b || false)) ≡ (b && a)
and_turned true true = refl
and_turned true false = refl
and_turned false true = refl
and_turned false false = refl

-- the test of `has_mark` is that by the order
one_test : (q : ℕ) (u : Touch) (k : Mark) → ((k.pid == q) && has_touch u.aspect u.write (k.touch ∷ [])) ≡ is_mark (mark_of q u) k
one_test q u k =
    and_turned (k.pid == q) (same_aspect k.touch.aspect u.aspect && (if u.write then k.touch.write else not k.touch.write))
    ∙ ap (λ b. b && (k.pid == q)) (test_is k.touch u ∙ (eq_by_cmp_equiv touch_cmp_total).symm k.touch u)
    ∙ ap (λ b. is_touch u k.touch && b) (nat_eq_equiv.symm k.pid q)

pub mark_test : (q : ℕ) (u : Touch) (ks : List Mark) → has_mark q u ks ≡ is_found (mark_of q u) ks
mark_test q u ks = ap (λ f. list_any f ks) (fun_ext (λ k. one_test q u k))

abbrev pub Once : List Mark → Type 0
Once [] = ⊤
Once (m ∷ ms) = (is_found m ms ≡ false) × Once ms

pub each_once : (ms : List Mark) → Once ms → AreEachOnce ms
each_once [] once = tt
each_once (m ∷ ms) once = (mark_test m.pid m.touch ms ∙ once.0, each_once ms once.1)

filtered_first : (q : Mark → Bool) (k : Mark) (ks : List Mark) (b : Bool) → is_found k (filter q ks) ≡ false → Once (filter q ks) → Once (if b then k ∷ filter q ks else filter q ks)
filtered_first q k ks true none once = (none, once)
filtered_first q k ks false none once = once

pub once_filter : (q : Mark → Bool) (ks : List Mark) → Once ks → Once (filter q ks)
once_filter q [] once = tt
once_filter q (k ∷ ks) once = filtered_first q k ks (q k) (found_in k q ks ∙ ap (λ b. q k && b) once.0 ∙ and_false (q k)) (once_filter q ks once.1)

-- a touch of these processes
turned_in : (t u : Touch) (q p : ℕ) → (is_touch u t && (q == p)) ≡ (is_touch t u && (p == q))
turned_in t u q p = ap (λ b. b && (q == p)) ((eq_by_cmp_equiv touch_cmp_total).symm u t) ∙ ap (λ b. is_touch t u && b) (nat_eq_equiv.symm q p)

parted : (a b c : Bool) → ((a && b) || (a && c)) ≡ (a && (b || c))
parted true b c = refl
parted false b c = refl

pub found_with : (m : Mark) (t : Touch) (ps : List ℕ) → is_found m (marks_with t ps) ≡ (is_touch t m.touch && among m.pid ps)
found_with m t [] = sym (and_false (is_touch t m.touch))
found_with m t (p ∷ ps) = ap (λ b. b || is_found m (marks_with t ps)) (turned_in t m.touch m.pid p) ∙ ap (λ b. (is_touch t m.touch && (p == m.pid)) || b) (found_with m t ps) ∙ parted (is_touch t m.touch) (p == m.pid) (among m.pid ps)

pub once_with : (t : Touch) (ps : List ℕ) → AreDistinct ps → Once (marks_with t ps)
once_with t [] once = tt
once_with t (p ∷ ps) once = (found_with (mark_of p t) t ps ∙ ap (λ b. is_touch t t && b) once.0 ∙ and_false (is_touch t t), once_with t ps once.1)

both : (b c : Bool) → b ≡ true → c ≡ true → (b && c) ≡ true
both b c h k = ap (λ x. x && c) h ∙ k

or_left : (a b : Bool) → a ≡ true → (a || b) ≡ true
or_left a b h = ap (λ x. x || b) h

or_right : (a b : Bool) → b ≡ true → (a || b) ≡ true
or_right true b h = refl
or_right false b h = h

mark_itself : (m : Mark) → is_mark m m ≡ true
mark_itself m = both (is_touch m.touch m.touch) (m.pid == m.pid) (touch_itself m.touch) (eq-eqb m.pid m.pid refl)

pub once_append : (xs ys : List Mark) → Once xs → Once ys → ((m : Mark) → is_found m xs ≡ true → is_found m ys ≡ false) → Once (xs ++ ys)
once_append [] ys once also apart = also
once_append (x ∷ xs) ys once also apart = (
  list_any-append (is_mark x) xs ys ∙ ap (λ b. b || is_found x ys) once.0 ∙ apart x (or_left (is_mark x x) (is_found x xs) (mark_itself x)),
  once_append xs ys once.1 also (λ m h. apart m (or_right (is_mark m x) (is_found m xs) h)),
)
