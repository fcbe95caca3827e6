-- What is kept of each process in a table.
use Rattle.std.proofs.Common.{◌≡◌, ℕ, ◌+◌, ◌<◌, Bool, true, false, ◌||◌, ◌==◌, List, [], ◌∷◌, ◌++◌, length, get_or, take, Option, Some, None, nat_cmp, refl, sym, ap, ◌∙◌}
use Rattle.std.specs.Prelude.{if◌then◌else◌}
use Rattle.std.proofs.lemmas.List.{take_more}
use Rattle.model.specs.FiniteMap.{FinMap, get}
use Rattle.model.specs.Entries.{Entry}
use Rattle.model.specs.Moments.{is_in}
use Rattle.replay.specs.Transactions.{doomed_kept, next_kept, own_kept}
use Rattle.replay.specs.declared.transaction.Transaction.{Transaction}
use Rattle.replay.specs.declared.transaction.Transaction.TheVariants.{Live, Doomed}

or_none : (b : Bool) → (b || false) ≡ b
or_none true = refl
or_none false = refl

or_assoc : (a b c : Bool) → (a || (b || c)) ≡ ((a || b) || c)
or_assoc true b c = refl
or_assoc false b c = refl

is_in_more : (q : ℕ) (xs : List ℕ) (y : ℕ) → is_in q (xs ++ y ∷ []) ≡ (is_in q xs || (q == y))
is_in_more q [] y = or_none (q == y)
is_in_more q (x ∷ xs) y = ap (λ b. (q == x) || b) (is_in_more q xs y) ∙ or_assoc (q == x) (is_in q xs) (q == y)

-- who is doomed stays so
doomed_twice : (t : Option Transaction) → doomed_kept (doomed_kept t) ≡ doomed_kept t
doomed_twice None = refl
doomed_twice (Some (Live flags positions)) = refl
doomed_twice (Some (Doomed flags)) = refl

-- one more is doomed
doomed_by : (a b : Bool) (x y z : Option Transaction) → y ≡ (if a then doomed_kept x else x) → z ≡ (if b then doomed_kept y else y) → z ≡ (if a || b then doomed_kept x else x)
doomed_by true true x y z e f = f ∙ ap doomed_kept e ∙ doomed_twice x
doomed_by true false x y z e f = f ∙ e
doomed_by false true x y z e f = f ∙ ap doomed_kept e
doomed_by false false x y z e f = f ∙ e

pub doom_more : (m mid new : FinMap nat_cmp Transaction) (ds : List ℕ) (i d : ℕ) → i < length ds → d ≡ get_or ds i d
    → ((q : ℕ) → get mid q ≡ (if is_in q (take i ds) then doomed_kept (get m q) else get m q))
    → ((q : ℕ) → get new q ≡ (if q == d then doomed_kept (get mid q) else get mid q))
    → (q : ℕ) → get new q ≡ (if is_in q (take (i + 1) ds) then doomed_kept (get m q) else get m q)
doom_more m mid new ds i d low is before doomed q =
    let more : take (i + 1) ds ≡ take i ds ++ d ∷ [] = take_more ds i d low ∙ ap (λ x. take i ds ++ x ∷ []) (sym is) in
    doomed_by (is_in q (take i ds)) (q == d) (get m q) (get mid q) (get new q) (before q) (doomed q)
    ∙ ap (λ b. if b then doomed_kept (get m q) else get m q) (sym (is_in_more q (take i ds) d) ∙ ap (is_in q) (sym more))

-- after an entry of the process, and those that it dooms
pub kept_next : (at : ℕ) (e : Entry) (q : ℕ) (x y z : Option Transaction) (ds : List ℕ) → ds ≡ e.doomed
    → y ≡ (if q == e.pid then own_kept at x e.op e.reply else x) → z ≡ (if is_in q ds then doomed_kept y else y) → z ≡ next_kept at e q x
kept_next at e q x y z ds same own doomed =
    doomed ∙ ap (λ xs. if is_in q xs then doomed_kept y else y) same ∙ ap (λ o. if is_in q e.doomed then doomed_kept o else o) own
