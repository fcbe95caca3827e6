-- The walk along a path's names, from the root (POSIX.1-2017, 4.13 Pathname Resolution). Each name
-- that is looked up is seen, whether it is there or not. Narrower than there: a walk goes on by no
-- symbolic link, and is refused at one, as by Linux where a walk is to follow none (openat2).
use Rattle.std.specs.Prelude.{ℕ, List, [], ◌∷◌, Bool, true, false, not, Option, Some, Result, Ok}
use Rattle.std.specs.Prelude.{Err}
use Rattle.model.specs.State.{Name, Kind, A_directory, A_link}
use Rattle.model.specs.Plan.{Errno, ELOOP, ENOENT, ENOTDIR, Look, Plan, Give, Refuse, ◌>>=◌, ◌>>◌}
use Rattle.model.specs.Plan.{ask, refuse_if, or_refuse}
use Rattle.model.specs.Paths.{path_names}

-- a path's names, or its refusal
abbrev pub told : {A : Type 0} → Result A Errno → Plan A
told (Ok x) = Give x
told (Err e) = Refuse e

abbrev pub parsed : ℕ → List ℕ → Plan (List Name)
parsed most bytes = told (path_names most bytes)

-- what a name gives: its number and its kind
abbrev pub Place : Type 0
Place = ℕ × Option Kind

abbrev pub is_directory : Place → Bool
is_directory (n, Some A_directory) = true
is_directory _ = false

abbrev pub is_link : Place → Bool
is_link (n, Some A_link) = true
is_link _ = false

-- one name, where the place that was reached is a directory
abbrev pub look : Place → Name → Plan (Option Place)
look place x = do
  refuse_if (is_link place) ELOOP
  refuse_if (not (is_directory place)) ENOTDIR
  ask (Look place.0 x)

-- the place that all names lead to
abbrev pub walk : Place → List Name → Plan Place
walk place [] = Give place
walk place (x ∷ xs) = do
  found ← look place x
  next ← or_refuse ENOENT found
  walk next xs

-- where the last name stands, and what it gives
pub record Last : Type 0 where
  pub parent : ℕ
  pub name : Name
  pub found : Option Place

abbrev pub last : Place → Name → List Name → Plan Last
last place x [] = do
  found ← look place x
  Give (record { parent = place.0; name = x; found = found })
last place x (y ∷ ys) = do
  found ← look place x
  next ← or_refuse ENOENT found
  last next y ys

-- with the refusal for the path of no names
abbrev pub last_of : ℕ → Errno → List Name → Plan Last
last_of root e [] = Refuse e
last_of root e (x ∷ xs) = last (root, Some A_directory) x xs
