-- The walk along names, by its first step and by its last one.
use Rattle.std.proofs.Common.{◌≡◌, List, [], ◌∷◌, ◌++◌, Option, length, take, get_or, ◌-◌, ◌+◌, ◌≤◌, refl, sym, ap, ◌∙◌, arith}
use Rattle.std.proofs.lemmas.List.{take_more, take_all}
use Rattle.model.specs.State.{Name, Kernel}
use Rattle.model.specs.Plan.{Errno, ENOENT, Plan, ◌>>=◌, Give, Refuse, Ask, or_refuse}
use Rattle.model.specs.Walks.{Place, Last, walk, last, last_of, look}
use Rattle.walk.specs.Walking.{start, next_of, look_last}

pub bind-assoc : {A B C : Type 0} (m : Plan A) (f : A → Plan B) (g : B → Plan C) → ((m >>= f) >>= g) ≡ (m >>= λ x. f x >>= g)
bind-assoc (Give x) f g = refl
bind-assoc (Refuse e) f g = refl
bind-assoc (Ask q next) f g = λ i. Ask q (λ a. bind-assoc (next a) f g i)

-- one step
pub walk-next : (place : Place) (x : Name) (xs : List Name) → walk place (x ∷ xs) ≡ (next_of place x >>= λ next. walk next xs)
walk-next place x xs = sym (bind-assoc (look place x) (or_refuse ENOENT) (λ next. walk next xs))

-- the names of a path, from this place on
abbrev last_from : Place → Errno → List Name → Plan Last
last_from place e [] = Refuse e
last_from place e (x ∷ xs) = last place x xs

last-next : (place : Place) (e : Errno) (y : Name) (xs : List Name) (x : Name) → last place y (xs ++ x ∷ []) ≡ (look place y >>= λ found. or_refuse ENOENT found >>= λ next. last_from next e (xs ++ x ∷ []))
last-next place e y [] x = refl
last-next place e y (z ∷ zs) x = refl

last-walk : (place : Place) (e : Errno) (xs : List Name) (x : Name) → last_from place e (xs ++ x ∷ []) ≡ (walk place xs >>= look_last x)
last-walk place e [] x = refl
last-walk place e (y ∷ ys) x =
    let rest : (found : Option Place) → (or_refuse ENOENT found >>= λ next. last_from next e (ys ++ x ∷ [])) ≡ ((or_refuse ENOENT found >>= λ next. walk next ys) >>= look_last x) =
    λ found. (λ i. or_refuse ENOENT found >>= λ next. last-walk next e ys x i) ∙ sym (bind-assoc (or_refuse ENOENT found) (λ next. walk next ys) (look_last x)) in
    last-next place e y ys x ∙ (λ i. look place y >>= λ found. rest found i) ∙ sym (bind-assoc (look place y) (λ found. or_refuse ENOENT found >>= λ next. walk next ys) (look_last x))

last_of-walk : (k : Kernel) (e : Errno) (xs : List Name) (x : Name) → last_of k.root e (xs ++ x ∷ []) ≡ (walk (start k) xs >>= look_last x)
last_of-walk k e [] x = refl
last_of-walk k e (y ∷ ys) x = last-walk (start k) e (y ∷ ys) x

-- a list is its last element behind the others
split_last : {A : Type 0} (xs : List A) (x : A) → 1 ≤ length xs → x ≡ get_or xs (length xs - 1) x → take (length xs - 1) xs ++ x ∷ [] ≡ xs
split_last xs x long h = ap (λ y. take (length xs - 1) xs ++ y ∷ []) h ∙ sym (take_more xs (length xs - 1) x (omega arith)) ∙ take_all (length xs - 1 + 1) xs (omega arith)

-- the last name is looked up where the others lead to
pub last_of-last : (k : Kernel) (e : Errno) (xs : List Name) (x : Name) → 1 ≤ length xs → x ≡ get_or xs (length xs - 1) x → last_of k.root e xs ≡ (walk (start k) (take (length xs - 1) xs) >>= look_last x)
last_of-last k e xs x long h = ap (last_of k.root e) (sym (split_last xs x long h)) ∙ last_of-walk k e _ x
