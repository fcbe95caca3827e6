-- Plans whose first steps one function takes.
use Rattle.std.proofs.Common.{◌≡◌, ℕ, List, [], ◌∷◌, Bool, true, false, Option, Some, None, Result, Ok, Err, not, ◌&&◌, ◌==◌, if◌then◌else◌, length, nat_lt, refl, sym}
use Rattle.std.specs.List.{list_any}
use Rattle.model.specs.Limits.{target_limit}
use Rattle.std.specs.Prelude.{IsErrAnd}
use Rattle.std.specs.Option.{IfSome}
use Rattle.model.specs.State.{Kernel, A_directory, A_link}
use Rattle.model.specs.Plan.{Errno as Refused, EINVAL, EISDIR, ENAMETOOLONG, ENOENT, ENOTDIR, ENOTEMPTY, Plan, Give, Refuse, Ask, List_names, Count_links, ◌>>=◌, ◌>>◌, ask, refuse_if}
use Rattle.model.specs.Walks.{Place, Last, is_directory, parsed, walk, last_of}
use Rattle.model.specs.Paths.{is_empty}
use Rattle.model.specs.Calls.{Done}
use Rattle.model.specs.Changes.{Move, Replaced}
use Rattle.model.specs.Plans.{Change, changed, unchanged, stated, status, moved, replaced_by_name}
use Rattle.model.specs.Steps.{Touch}
use Rattle.ids.specs.declared.errno.Refusal.{Refusal}
use Rattle.look.specs.Asked.{Comes}
use Rattle.path_calls.specs.Parts.{place_at, last_at, target_length, target_tested, without_names, gives, replaced, replaced_over}
use Rattle.walk.proofs.Laws.{goes, stops, via}

pub binds : {A B C : Type 0} (m : Plan A) (f : A → Plan B) (g : B → Plan C) → (m >>= f) >>= g ≡ m >>= (λ x. f x >>= g)
binds (Give x) f g = refl
binds (Refuse e) f g = refl
binds (Ask q next) f g = λ i. Ask q (λ a. binds (next a) f g i)

-- the place that a path leads to, and the rest
pub place_go : {B : Type 0} {k : Kernel} (path : List ℕ) (g : Place → Plan B) {before : Option (List Touch)} {x : Place} {mid : Option (List Touch)} {r : Result B Refusal} {after : Option (List Touch)} → Comes k (place_at k.bounds.path_bytes k.root path) before (Ok x) mid → Comes k (g x) mid r after → Comes k (parsed k.bounds.path_bytes path >>= (λ names. walk (k.root, Some A_directory) names >>= g)) before r after
place_go {k = k} path g h rest = via (sym (binds (parsed k.bounds.path_bytes path) (walk (k.root, Some A_directory)) g)) (goes g h rest)

pub place_stop : {B : Type 0} {k : Kernel} (path : List ℕ) (g : Place → Plan B) {before : Option (List Touch)} {why : Refusal} {after : Option (List Touch)} {r : Result B Refusal} → IsErrAnd r (λ y. y ≡ why) → Comes k (place_at k.bounds.path_bytes k.root path) before (Err why) after → Comes k (parsed k.bounds.path_bytes path >>= (λ names. walk (k.root, Some A_directory) names >>= g)) before r after
place_stop {k = k} path g is h = via (sym (binds (parsed k.bounds.path_bytes path) (walk (k.root, Some A_directory)) g)) (stops g is h)

-- where a path's last name stands, and the rest
pub last_go : {B : Type 0} {k : Kernel} (e : Refused) (path : List ℕ) (g : Last → Plan B) {before : Option (List Touch)} {x : Last} {mid : Option (List Touch)} {r : Result B Refusal} {after : Option (List Touch)} → Comes k (last_at k.bounds.path_bytes k.root e path) before (Ok x) mid → Comes k (g x) mid r after → Comes k (parsed k.bounds.path_bytes path >>= (λ names. last_of k.root e names >>= g)) before r after
last_go {k = k} e path g h rest = via (sym (binds (parsed k.bounds.path_bytes path) (last_of k.root e) g)) (goes g h rest)

pub last_stop : {B : Type 0} {k : Kernel} (e : Refused) (path : List ℕ) (g : Last → Plan B) {before : Option (List Touch)} {why : Refusal} {after : Option (List Touch)} {r : Result B Refusal} → IsErrAnd r (λ y. y ≡ why) → Comes k (last_at k.bounds.path_bytes k.root e path) before (Err why) after → Comes k (parsed k.bounds.path_bytes path >>= (λ names. last_of k.root e names >>= g)) before r after
last_stop {k = k} e path g is h = via (sym (binds (parsed k.bounds.path_bytes path) (last_of k.root e) g)) (stops g is h)

-- a test, and what comes next
test_then : {A B : Type 0} (b : Bool) (e : Refused) (m : Plan A) (g : A → Plan B) → (refuse_if b e >> (m >>= g)) ≡ ((refuse_if b e >> m) >>= g)
test_then true e m g = refl
test_then false e m g = refl

pub bare_then : {B : Type 0} (dir : ℕ) (g : Plan B) → (ask (List_names dir) >>= (λ entries. refuse_if (not (is_empty entries)) ENOTEMPTY >> g)) ≡ (without_names dir >> g)
bare_then dir g = refl

-- the tests of a target, and the rest
three_then : {B : Type 0} (a b c : Bool) (g : Plan B) → (refuse_if a ENOENT >> (refuse_if b ENAMETOOLONG >> (refuse_if c EINVAL >> g))) ≡ ((refuse_if a ENOENT >> (refuse_if b ENAMETOOLONG >> refuse_if c EINVAL)) >> g)
three_then true b c g = refl
three_then false true c g = refl
three_then false false c g = refl

pub tested_then : {B : Type 0} (target : List ℕ) (g : Plan B) → (refuse_if (is_empty target) ENOENT >> (refuse_if (nat_lt target_limit (length target)) ENAMETOOLONG >> (refuse_if (list_any (λ b. b == 0) target) EINVAL >> g))) ≡ (target_tested target >> g)
tested_then target g = three_then (is_empty target) (nat_lt target_limit (length target)) (list_any (λ b. b == 0) target) g

-- the target that was made of some bytes
pub made_of : (made : Option (List ℕ)) (target bytes : List ℕ) → made ≡ Some target → IfSome made (λ t. t ≡ bytes) → target ≡ bytes
made_of made target bytes is says = rw is at says

-- what a symbolic link is like, by its target's length and by how many names it has
abbrev pub link_with : ℕ → ℕ → ℕ → Plan Change
link_with n size links = stated A_link n size links

abbrev pub link_of : ℕ → ℕ → Plan Change
link_of n size = ask (Count_links n) >>= link_with n size

pub link_by : (n : ℕ) → status (n, Some A_link) ≡ (target_length n >>= link_of n)
link_by n = refl

two_then : {A B : Type 0} (a b : Bool) (m : Plan A) (g : A → Plan B) → (refuse_if a EISDIR >> (refuse_if b ENOTDIR >> (m >>= g))) ≡ ((refuse_if a EISDIR >> (refuse_if b ENOTDIR >> m)) >>= g)
two_then true b m g = refl
two_then false b m g = test_then b ENOTDIR m g

over_then : {B : Type 0} (what old : Place) (g : Replaced → Plan B) → (refuse_if (not (is_directory what) && is_directory old) EISDIR >> (refuse_if (is_directory what && not (is_directory old)) ENOTDIR >> (replaced_by_name old.0 (is_directory old) >>= g))) ≡ (replaced_over what old >>= g)
over_then what old g = two_then (not (is_directory what) && is_directory old) (is_directory what && not (is_directory old)) (replaced_by_name old.0 (is_directory old)) g

-- a rename by what loses its name, where something moves
abbrev pub move_by : Last → Place → Last → Replaced → Plan Change
move_by from what to replaced = changed Done (Move from.parent from.name to.parent to.name what.0 replaced ∷ [])

onto_then : (from : Last) (what : Place) (to : Last) (old : Place) (same : Bool) → (if same then unchanged Done else (refuse_if (not (is_directory what) && is_directory old) EISDIR >> (refuse_if (is_directory what && not (is_directory old)) ENOTDIR >> (replaced_by_name old.0 (is_directory old) >>= move_by from what to)))) ≡ (if same then unchanged Done else (replaced_over what old >>= move_by from what to))
onto_then from what to old true = refl
onto_then from what to old false = over_then what old (move_by from what to)

pub moved_then : (from : Last) (what : Place) (to : Last) (found : Option Place) → moved from what to found ≡ (if gives found what.0 then unchanged Done else (replaced what found >>= move_by from what to))
moved_then from what to None = refl
moved_then from what to (Some old) = onto_then from what to old (what.0 == old.0)
