-- The least of several names.
use Rattle.std.proofs.Common.{◌≡◌, ◌∙◌, sym, refl, ap, ℕ, List, Bool, true, false, Option, Some, None, arith, if◌then◌else◌}
use Rattle.std.specs.Cmp.Lexicographic.{slice_cmp}
use Rattle.std.specs.Ordering.{nat_cmp, is_lt, ordering_reverse}
use Rattle.std.specs.declared.cmp.Ordering.{Ordering}
use Rattle.std.specs.declared.cmp.Ordering.TheVariants.{Less, Equal, Greater}
use Rattle.std.proofs.lemmas.Cmp.{same_from_slice_cmp, nat_list_cmp_total, tied_itself}
use Rattle.std.proofs.lemmas.Bool.Decides.{nat_tests}
use Rattle.model.specs.Clashes.{name_lt, lesser, with_name}

name_lt_is : (xs ys : List ℕ) → is_lt (slice_cmp nat_cmp xs ys) ≡ name_lt xs ys
name_lt_is xs ys = same_from_slice_cmp nat_cmp is_lt name_lt refl (λ _ _. refl) (λ _ _. refl) (λ x y xs ys o h. grind (arith, nat_tests)) xs ys (slice_cmp nat_cmp xs ys) refl

less_from : (o : Ordering) → is_lt o ≡ true → o ≡ Less
less_from Less h = refl
less_from Equal h = cc
less_from Greater h = cc

lt_trans : (x y z : List ℕ) → name_lt x y ≡ true → name_lt y z ≡ true → name_lt x z ≡ true
lt_trans x y z e f =
    sym (name_lt_is x z) ∙ ap is_lt (nat_list_cmp_total.trans x y z (less_from _ (name_lt_is x y ∙ e)) (less_from _ (name_lt_is y z ∙ f)))

not_lt_by : (x y z : List ℕ) (o p : Ordering) → slice_cmp nat_cmp x y ≡ o → slice_cmp nat_cmp x z ≡ p → is_lt o ≡ false → is_lt (slice_cmp nat_cmp y z) ≡ false → is_lt p ≡ false
not_lt_by x y z Less p e f g h = cc
not_lt_by x y z Equal p e f g h = ap is_lt (sym f ∙ nat_list_cmp_total.congr x y z e) ∙ h
not_lt_by x y z Greater Less e f g h =
    let turned : slice_cmp nat_cmp y x ≡ Less = nat_list_cmp_total.antisymm y x ∙ ap ordering_reverse e in
    let less : slice_cmp nat_cmp y z ≡ Less = nat_list_cmp_total.trans y x z turned f in
    sym (ap is_lt less) ∙ h
not_lt_by x y z Greater Equal e f g h = refl
not_lt_by x y z Greater Greater e f g h = refl

not_lt_trans : (x y z : List ℕ) → name_lt x y ≡ false → name_lt y z ≡ false → name_lt x z ≡ false
not_lt_trans x y z e f =
    sym (name_lt_is x z) ∙ not_lt_by x y z (slice_cmp nat_cmp x y) (slice_cmp nat_cmp x z) refl refl (name_lt_is x y ∙ e) (name_lt_is y z ∙ f)

lesser_by : (x y z : List ℕ) (p q : Bool) → name_lt y x ≡ p → name_lt z y ≡ q → lesser (lesser x (Some y)) (Some z) ≡ lesser x (Some (lesser y (Some z)))
lesser_by x y z true true e f = simp (e, f, lt_trans z y x f e)
lesser_by x y z true false e f = simp (e, f)
lesser_by x y z false true e f = simp (e, f)
lesser_by x y z false false e f = simp (e, f, not_lt_trans z y x f e)

-- the least of three names, taken from the left or from the right
pub least_assoc : (a b c : Option (List ℕ)) → with_name (with_name a b) c ≡ with_name a (with_name b c)
least_assoc None b c = refl
least_assoc (Some x) None c = refl
least_assoc (Some x) (Some y) None = refl
least_assoc (Some x) (Some y) (Some z) = ap Some (lesser_by x y z (name_lt y x) (name_lt z y) refl refl)

lt_itself : (x : List ℕ) → name_lt x x ≡ false
lt_itself x = sym (name_lt_is x x) ∙ ap is_lt (tied_itself nat_list_cmp_total x)

not_both : (x y : List ℕ) (b : Bool) → name_lt y x ≡ true → name_lt x y ≡ b → b ≡ false
not_both x y true h k = sym (lt_trans x y x k h) ∙ lt_itself x
not_both x y false h k = refl

again_by : (x y : List ℕ) (b : Bool) → name_lt y x ≡ b → lesser (lesser x (Some y)) (Some x) ≡ lesser x (Some y)
again_by x y true h = simp (h, not_both x y (name_lt x y) h refl)
again_by x y false h = simp (h, lt_itself x)

-- a name that was among those of which the least is taken
pub lesser_again : (a b : Option (List ℕ)) → with_name (with_name a b) a ≡ with_name a b
lesser_again None None = refl
lesser_again None (Some y) = refl
lesser_again (Some x) None = ap (λ b. Some (if b then x else x)) (lt_itself x)
lesser_again (Some x) (Some y) = ap Some (again_by x y (name_lt y x) refl)
