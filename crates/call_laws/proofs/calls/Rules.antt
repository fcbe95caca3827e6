-- What holds of the value that a plan gives.
use Rattle.std.proofs.Common.{◌≡◌, ℕ, ◌<◌, arith, Bool, true, false, if◌then◌else◌, List, [], ◌∷◌, Option, Some, None, Result, Ok, Err, IfOk, refl, sym, ap, subst}
use Rattle.model.specs.State.{Name, Kind, A_file, A_directory, A_pipe, A_link, A_fifo, A_socket, Kernel, kind_of, names_of, entry_of, links}
use Rattle.model.specs.FiniteMap.{get}
use Rattle.call_laws.proofs.edits.Names.{with_kind, named_counted}
use Rattle.call_laws.specs.WellFormed.{CanBeNamed, IsRooted, WellFormed}
use Rattle.model.specs.Plan.{Errno, ENOENT, Plan, Give, Refuse, Ask, answer, given, ◌>>=◌, ◌>>◌, or_refuse, refuse_if}
use Rattle.model.specs.Walks.{Place, Last, walk, last, last_of}

pub after_bind : {A B : Type 0} (k : Kernel) (P : B → Type 0) (m : Plan A) (f : A → Plan B) → IfOk (given k m) (λ x. IfOk (given k (f x)) P) → IfOk (given k (m >>= f)) P
after_bind k P (Give x) f h = h
after_bind k P (Refuse e) f h = tt
after_bind k P (Ask q next) f h = after_bind k P (next (answer k q)) f h

pub whatever : {A : Type 0} {P : A → Type 0} (r : Result A Errno) → ((x : A) → P x) → IfOk r P
whatever (Ok x) h = h x
whatever (Err e) h = tt

pub weaken : {A : Type 0} {P Q : A → Type 0} (r : Result A Errno) → IfOk r P → ((x : A) → P x → Q x) → IfOk r Q
weaken (Ok x) h f = f x h
weaken (Err e) h f = tt

-- a test that may refuse
pub allowed : {A : Type 0} (k : Kernel) (P : A → Type 0) (b : Bool) (e : Errno) (m : Plan A) → (b ≡ false → IfOk (given k m) P) → IfOk (given k (refuse_if b e >> m)) P
allowed k P true e m h = tt
allowed k P false e m h = h refl

pub either_given : {A : Type 0} (k : Kernel) (P : A → Type 0) (b : Bool) (m n : Plan A) → (b ≡ true → IfOk (given k m) P) → (b ≡ false → IfOk (given k n) P) → IfOk (given k (if b then m else n)) P
either_given k P true m n f g = f refl
either_given k P false m n f g = g refl

-- a place that a path leads to: its kind is told rightly
pub record IsPlace (k : Kernel) (place : Place) : Type 0 where
  pub right : place.1 ≡ kind_of k place.0
  pub rooted : links k place.0 ≡ 0 → place.0 ≡ k.root
  pub can_be_named : CanBeNamed place.1

-- the last name's directory is one, and what is found is what the name gives
pub record IsLast (k : Kernel) (at : Last) : Type 0 where
  pub parent : IsRooted k at.parent
  pub found : at.found ≡ entry_of k at.parent at.name

abbrev place_or : Place → Option Place → Place
place_or place (Some found) = found
place_or place None = place

pub root_place : (k : Kernel) → WellFormed k → IsPlace k (k.root, Some A_directory)
root_place k well = record { right = sym well.root; rooted = λ _. refl; can_be_named = tt }

pub entry_place : (k : Kernel) → WellFormed k → (d : ℕ) (x : Name) (place : Place) → entry_of k d x ≡ Some place → IsPlace k place
entry_place k well d x place e = by_number (get (names_of k d) x) refl e
  where
    by_number : (o : Option ℕ) → get (names_of k d) x ≡ o → with_kind k o ≡ Some place → IsPlace k place
    by_number None is e = absurd cc
    by_number (Some n) is e = subst (IsPlace k) (ap (place_or place) e) (record {
      right = refl;
      rooted = λ none. absurd (let some : 0 < links k n = named_counted k d x n is in omega arith);
      can_be_named = well.names d x n is;
    })

next_right : {A : Type 0} (k : Kernel) → WellFormed k → (d : ℕ) (x : Name) (P : A → Type 0) (f : Place → Plan A) → ((place : Place) → IsPlace k place → IfOk (given k (f place)) P) → (o : Option Place) → entry_of k d x ≡ o → IfOk (given k (or_refuse ENOENT o >>= f)) P
next_right k well d x P f h None e = tt
next_right k well d x P f h (Some place) e = h place (entry_place k well d x place e)

pub last_right : (k : Kernel) → WellFormed k → (n : ℕ) (what : Option Kind) (x : Name) (xs : List Name) → IsPlace k (n, what) → IfOk (given k (last (n, what) x xs)) (IsLast k)
last_right k well n None x [] e = tt
last_right k well n None x (y ∷ ys) e = tt
last_right k well n (Some A_file) x [] e = tt
last_right k well n (Some A_file) x (y ∷ ys) e = tt
last_right k well n (Some A_pipe) x [] e = tt
last_right k well n (Some A_pipe) x (y ∷ ys) e = tt
last_right k well n (Some A_link) x [] e = tt
last_right k well n (Some A_link) x (y ∷ ys) e = tt
last_right k well n (Some A_fifo) x [] e = tt
last_right k well n (Some A_fifo) x (y ∷ ys) e = tt
last_right k well n (Some A_socket) x [] e = tt
last_right k well n (Some A_socket) x (y ∷ ys) e = tt
last_right k well n (Some A_directory) x [] e = record { parent = record { directory = sym e.right; rooted = e.rooted }; found = refl }
last_right k well n (Some A_directory) x (y ∷ ys) e = next_right k well n x (IsLast k) (λ next. last next y ys) (λ place right. last_right k well place.0 place.1 y ys right) (entry_of k n x) refl

pub last_of_right : (k : Kernel) → WellFormed k → (e : Errno) (names : List Name) → IfOk (given k (last_of k.root e names)) (IsLast k)
last_of_right k well e [] = tt
last_of_right k well e (x ∷ xs) = last_right k well k.root (Some A_directory) x xs (root_place k well)

pub walk_right : (k : Kernel) → WellFormed k → (n : ℕ) (what : Option Kind) (xs : List Name) → IsPlace k (n, what) → IfOk (given k (walk (n, what) xs)) (IsPlace k)
walk_right k well n what [] e = e
walk_right k well n None (x ∷ xs) e = tt
walk_right k well n (Some A_file) (x ∷ xs) e = tt
walk_right k well n (Some A_pipe) (x ∷ xs) e = tt
walk_right k well n (Some A_link) (x ∷ xs) e = tt
walk_right k well n (Some A_fifo) (x ∷ xs) e = tt
walk_right k well n (Some A_socket) (x ∷ xs) e = tt
walk_right k well n (Some A_directory) (x ∷ xs) e = next_right k well n x (IsPlace k) (λ next. walk next xs) (λ place right. walk_right k well place.0 place.1 xs right) (entry_of k n x) refl
