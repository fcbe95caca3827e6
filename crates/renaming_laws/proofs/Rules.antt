-- Two plans that go the same way in a state and in the renamed one.
use Rattle.std.proofs.Common.{◌≡◌, ℕ, Bool, true, false, not, if◌then◌else◌, List, [], ◌∷◌, Option, Some, None, Result, Ok, Err, refl, sym, ap, subst, ◌∙◌}
use Rattle.model.specs.State.{Name, A_file, A_directory, A_pipe, A_link, A_fifo, A_socket, Kernel, mapped}
use Rattle.model.specs.Plan.{Errno, ELOOP, ENOENT, ENOTDIR, Question, Look, Plan, Give, Refuse, Ask, answer, given, ◌>>=◌, ◌>>◌, or_refuse, refuse_if, ask}
use Rattle.model.specs.Walks.{told, parsed, Place, is_directory, is_link, look, walk, Last, last, last_of}
use Rattle.model.specs.Paths.{path_names}
use Rattle.renaming_laws.specs.Renaming.{IsRenaming, renamed}
use Rattle.renaming_laws.specs.Renamed.{renamed_question, renamed_shown, renamed_place, mapped_ok}
use Rattle.renaming_laws.proofs.States.{questions_are_renamed}

-- in the renamed state the second plan gives what the first one gives, through g
pub record Goes (f : ℕ → ℕ) (k : Kernel) {A B : Type 0} (g : A → B) (m : Plan A) (n : Plan B) : Type 0 where
  pub same : given (renamed f k) n ≡ mapped_ok g (given k m)

after_ok : {A B : Type 0} → Result A Errno → (A → Result B Errno) → Result B Errno
after_ok (Ok x) h = h x
after_ok (Err e) h = Err e

given_bind : {A B : Type 0} (k : Kernel) (m : Plan A) (p : A → Plan B) → given k (m >>= p) ≡ after_ok (given k m) (λ x. given k (p x))
unfolding after_ok
given_bind k (Give x) p = refl
given_bind k (Refuse e) p = refl
given_bind k (Ask q next) p = given_bind k (next (answer k q)) p

module _ (f : ℕ → ℕ) (r : IsRenaming f) (k : Kernel) where
  pub goes_on : {A B C D : Type 0} (g : A → B) (h : C → D) (m : Plan A) (n : Plan B) (p : A → Plan C) (q : B → Plan D) → Goes f k g m n → ((x : A) → Goes f k h (p x) (q (g x))) → Goes f k h (m >>= p) (n >>= q)
  unfolding after_ok
  goes_on {A} g h m n p q way rest = record {
    same =
        given_bind (renamed f k) n q ∙ ap (λ res. after_ok res (λ y. given (renamed f k) (q y))) way.same ∙ by_result (given k m) ∙ ap (mapped_ok h) (sym (given_bind k m p));
  }
    where
      by_result : (res : Result A Errno) → after_ok (mapped_ok g res) (λ y. given (renamed f k) (q y)) ≡ mapped_ok h (after_ok res (λ x. given k (p x)))
      by_result (Ok x) = (rest x).same
      by_result (Err e) = refl

  pub goes_give : {A B : Type 0} (g : A → B) (x : A) (y : B) → y ≡ g x → Goes f k g (Give x) (Give y)
  goes_give g x y e = record { same = ap Ok e }

  pub goes_refuse : {A B : Type 0} (g : A → B) (e : Errno) → Goes f k g (Refuse e) (Refuse e)
  goes_refuse g e = record { same = refl }

  pub goes_ask : (q : Question) → Goes f k (renamed_shown f q) (ask q) (ask (renamed_question f q))
  goes_ask q = record { same = ap Ok (questions_are_renamed f r k q) }

  pub goes_unless : {A B : Type 0} (g : A → B) (b c : Bool) → c ≡ b → (e : Errno) (m : Plan A) (n : Plan B) → Goes f k g m n → Goes f k g (refuse_if b e >> m) (refuse_if c e >> n)
  goes_unless g b c same e m n way = subst (λ c. Goes f k g (refuse_if b e >> m) (refuse_if c e >> n)) (sym same) (by_test b)
    where
      by_test : (b : Bool) → Goes f k g (refuse_if b e >> m) (refuse_if b e >> n)
      by_test true = record { same = refl }
      by_test false = way

  pub goes_either : {A B : Type 0} (g : A → B) (b c : Bool) → c ≡ b → (m m' : Plan A) (n n' : Plan B) → Goes f k g m n → Goes f k g m' n' → Goes f k g (if b then m else m') (if c then n else n')
  goes_either g b c same m m' n n' way other = subst (λ c. Goes f k g (if b then m else m') (if c then n else n')) (sym same) (by_test b)
    where
      by_test : (b : Bool) → Goes f k g (if b then m else m') (if b then n else n')
      by_test true = way
      by_test false = other

  pub goes_or : {A B : Type 0} (g : A → B) (e : Errno) (o : Option A) → Goes f k g (or_refuse e o) (or_refuse e (mapped g o))
  goes_or g e (Some x) = record { same = refl }
  goes_or g e None = record { same = refl }

  pub goes_parsed : (most : ℕ) (path : List ℕ) → Goes f k (λ names. names) (parsed most path) (parsed most path)
  goes_parsed most path = by_names (path_names most path)
    where
      by_names : (res : Result (List Name) Errno) → Goes f k (λ names. names) (told res) (told res)
      by_names (Ok names) = record { same = refl }
      by_names (Err e) = record { same = refl }

-- a place is of the same kind
pub directory_still : (f : ℕ → ℕ) (place : Place) → is_directory (renamed_place f place) ≡ is_directory place
directory_still f (n, None) = refl
directory_still f (n, Some A_file) = refl
directory_still f (n, Some A_directory) = refl
directory_still f (n, Some A_pipe) = refl
directory_still f (n, Some A_link) = refl
directory_still f (n, Some A_fifo) = refl
directory_still f (n, Some A_socket) = refl

pub link_still : (f : ℕ → ℕ) (place : Place) → is_link (renamed_place f place) ≡ is_link place
link_still f (n, None) = refl
link_still f (n, Some A_file) = refl
link_still f (n, Some A_directory) = refl
link_still f (n, Some A_pipe) = refl
link_still f (n, Some A_link) = refl
link_still f (n, Some A_fifo) = refl
link_still f (n, Some A_socket) = refl

abbrev pub renamed_last : (ℕ → ℕ) → Last → Last
renamed_last f at = record at { parent = f at.parent; found = mapped (renamed_place f) at.found }

module _ (f : ℕ → ℕ) (r : IsRenaming f) (k : Kernel) where
  look_goes : (place : Place) (x : Name) → Goes f k (mapped (renamed_place f)) (look place x) (look (renamed_place f place) x)
  look_goes place x =
      goes_unless f r k (mapped (renamed_place f)) (is_link place) (is_link (renamed_place f place)) (link_still f place) ELOOP _ _
      (goes_unless f r k (mapped (renamed_place f)) (not (is_directory place)) (not (is_directory (renamed_place f place))) (ap not (directory_still f place)) ENOTDIR _ _ (goes_ask f r k (Look place.0 x)))

  next_goes : {A B : Type 0} (h : A → B) (place : Place) (x : Name) (p : Place → Plan A) (q : Place → Plan B) → ((next : Place) → Goes f k h (p next) (q (renamed_place f next)))
      → Goes f k h (look place x >>= (λ found. or_refuse ENOENT found >>= p)) (look (renamed_place f place) x >>= (λ found. or_refuse ENOENT found >>= q))
  next_goes h place x p q rest =
      goes_on f r k (mapped (renamed_place f)) h (look place x) (look (renamed_place f place) x) _ _ (look_goes place x) (λ found.
      goes_on f r k (renamed_place f) h (or_refuse ENOENT found) (or_refuse ENOENT (mapped (renamed_place f) found)) p q (goes_or f r k (renamed_place f) ENOENT found) rest)

  pub walk_goes : (place : Place) (xs : List Name) → Goes f k (renamed_place f) (walk place xs) (walk (renamed_place f place) xs)
  walk_goes place [] = goes_give f r k (renamed_place f) place (renamed_place f place) refl
  walk_goes place (x ∷ xs) = next_goes (renamed_place f) place x (λ next. walk next xs) (λ next. walk next xs) (λ next. walk_goes next xs)

  last_goes : (place : Place) (x : Name) (xs : List Name) → Goes f k (renamed_last f) (last place x xs) (last (renamed_place f place) x xs)
  last_goes place x [] = goes_on f r k (mapped (renamed_place f)) (renamed_last f) (look place x) (look (renamed_place f place) x) _ _ (look_goes place x) (λ found. goes_give f r k (renamed_last f) _ _ refl)
  last_goes place x (y ∷ ys) = next_goes (renamed_last f) place x (λ next. last next y ys) (λ next. last next y ys) (λ next. last_goes next y ys)

  pub last_of_goes : (root : ℕ) (e : Errno) (xs : List Name) → Goes f k (renamed_last f) (last_of root e xs) (last_of (f root) e xs)
  last_of_goes root e [] = goes_refuse f r k (renamed_last f) e
  last_of_goes root e (x ∷ xs) = last_goes (root, Some A_directory) x xs
