-- One process more whose transaction is doomed.
use Rattle.std.proofs.Common.{◌≡◌, ℕ, ◌+◌, ◌<◌, Bool, true, false, ◌||◌, ◌==◌, List, [], ◌∷◌, ◌++◌, length, get_or, take, Option, Some, None, refl, sym, ap, ◌∙◌}
use Rattle.std.specs.Prelude.{if◌then◌else◌}
use Rattle.std.proofs.lemmas.List.{take_more}
use Rattle.model.specs.Moments.{is_in}
use Rattle.redo_records.specs.Kept.{in_place}
use Rattle.redo_records.specs.declared.transaction.Transaction.{Transaction}
use Rattle.redo_records.specs.declared.transaction.Transaction.TheVariants.{Doomed}

or_none : (b : Bool) → (b || false) ≡ b
or_none true = refl
or_none false = refl

or_assoc : (a b c : Bool) → (a || (b || c)) ≡ ((a || b) || c)
or_assoc true b c = refl
or_assoc false b c = refl

is_in_more : (q : ℕ) (xs : List ℕ) (y : ℕ) → is_in q (xs ++ y ∷ []) ≡ (is_in q xs || (q == y))
is_in_more q [] y = or_none (q == y)
is_in_more q (x ∷ xs) y = ap (λ b. (q == x) || b) (is_in_more q xs y) ∙ or_assoc (q == x) (is_in q xs) (q == y)

-- who is doomed stays so
doomed_twice : (t : Option Transaction) → in_place Doomed (in_place Doomed t) ≡ in_place Doomed t
doomed_twice None = refl
doomed_twice (Some x) = refl

doomed_by : (a b : Bool) (x y z : Option Transaction) → y ≡ (if a then in_place Doomed x else x) → z ≡ (if b then in_place Doomed y else y) → z ≡ (if a || b then in_place Doomed x else x)
doomed_by true true x y z e f = f ∙ ap (in_place Doomed) e ∙ doomed_twice x
doomed_by true false x y z e f = f ∙ e
doomed_by false true x y z e f = f ∙ ap (in_place Doomed) e
doomed_by false false x y z e f = f ∙ e

pub doom_more : (x y z : Option Transaction) (q : ℕ) (ds : List ℕ) (i d : ℕ) → i < length ds → d ≡ get_or ds i d
    → y ≡ (if is_in q (take i ds) then in_place Doomed x else x)
    → z ≡ (if q == d then in_place Doomed y else y)
    → z ≡ (if is_in q (take (i + 1) ds) then in_place Doomed x else x)
doom_more x y z q ds i d low is before doomed =
    let more : take (i + 1) ds ≡ take i ds ++ d ∷ [] = take_more ds i d low ∙ ap (λ x. take i ds ++ x ∷ []) (sym is) in
    doomed_by (is_in q (take i ds)) (q == d) x y z before doomed
    ∙ ap (λ b. if b then in_place Doomed x else x) (sym (is_in_more q (take i ds) d) ∙ ap (is_in q) (sym more))
