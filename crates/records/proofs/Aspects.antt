-- The order of aspects tells all aspects apart.
use Rattle.std.proofs.Common.{◌≡◌, ◌∙◌, sym, refl, ap, ℕ, true, ◌&&◌, ◌==◌, List, ◌∷◌, if◌then◌else◌}
use Rattle.std.specs.Ordering.{is_eq}
use Rattle.std.specs.declared.cmp.Ordering.{Ordering}
use Rattle.std.specs.declared.cmp.Ordering.TheVariants.{Less, Equal, Greater}
use Rattle.std.proofs.lemmas.Cmp.{tied_itself}
use Rattle.std.proofs.lemmas.Map.Lookups.{exact_bytes}
use Rattle.ids.specs.Order.{aspect_code, aspect_cmp, aspect_cmp_total}
use Rattle.model.specs.Aspects.{Aspect, Entry, Names, Size, Block, Links, Ends, Offset, Front, Back}
use Rattle.model.specs.Aspects.{Target, Rights}
use Rattle.model.specs.Steps.{Touch}
use Rattle.model.specs.Clashes.{same_aspect}
use Rattle.records.specs.Codes.{is_touch}
use Rattle.records.specs.Groups.{alike}
use Rattle.records.proofs.Exact.{aspect_is, aspect_itself, iff, touch_parts}

-- an aspect back from its numbers
abbrev by_part : ℕ → ℕ → ℕ → List ℕ → Aspect
by_part o p b x =
    if p == 0 then Entry o x
    else if p == 1 then Names o
    else if p == 2 then Size o
    else if p == 3 then Block o b
    else if p == 4 then Links o
    else if p == 5 then Ends o
    else if p == 6 then Offset o
    else if p == 7 then Front o
    else if p == 8 then Back o
    else if p == 9 then Target o
    else Rights o

abbrev aspect_from : List ℕ → Aspect
aspect_from (o ∷ p ∷ b ∷ x) = by_part o p b x
aspect_from _ = Names 0

read_back : (a : Aspect) → aspect_from (aspect_code a) ≡ a
read_back (Entry d x) = refl
read_back (Names d) = refl
read_back (Size n) = refl
read_back (Block n i) = refl
read_back (Links n) = refl
read_back (Ends p) = refl
read_back (Offset d) = refl
read_back (Front p) = refl
read_back (Back p) = refl
read_back (Target p) = refl
read_back (Rights p) = refl

tied_from : (o : Ordering) → is_eq o ≡ true → o ≡ Equal
tied_from Less h = cc
tied_from Equal h = refl
tied_from Greater h = cc

codes_from : (a b : Aspect) → aspect_cmp a b ≡ Equal → aspect_code a ≡ aspect_code b
unfolding aspect_cmp
codes_from a b h = exact_bytes (aspect_code a) (aspect_code b) h

pub aspect_from_tied : (a b : Aspect) → is_eq (aspect_cmp a b) ≡ true → a ≡ b
aspect_from_tied a b h = sym (read_back a) ∙ ap aspect_from (codes_from a b (tied_from _ h)) ∙ read_back b

pub tied_aspect : (a : Aspect) → is_eq (aspect_cmp a a) ≡ true
tied_aspect a = ap is_eq (tied_itself aspect_cmp_total a)

-- the test by numbers is that by aspects
pub aspect_tied : (a b : Aspect) → is_eq (aspect_cmp a b) ≡ same_aspect a b
aspect_tied a b = iff (is_eq (aspect_cmp a b)) (same_aspect a b)
    (λ h. ap (same_aspect a) (sym (aspect_from_tied a b h)) ∙ aspect_itself a)
    (λ h. ap (λ c. is_eq (aspect_cmp a c)) (sym (aspect_is a b h)) ∙ tied_aspect a)

pub touch_by : (t u : Touch) → is_touch t u ≡ (is_eq (aspect_cmp t.aspect u.aspect) && alike t.write u.write)
touch_by t u = touch_parts t.aspect t.write u ∙ ap (λ b. b && alike t.write u.write) (sym (aspect_tied t.aspect u.aspect))
