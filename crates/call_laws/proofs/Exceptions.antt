-- Calls that show what the laws leave out: a directory that is made and removed again, a fork.
use Rattle.std.specs.Prelude.{codes}
use Rattle.std.proofs.Common.{◌≡◌, ◌≢◌, ℕ, ◌<◌, List, [], ◌∷◌, Option, None, Some, refl, sym, ap, arith}
use Rattle.model.specs.State.{Name, Kernel, A_directory}
use Rattle.model.specs.Aspects.{Entry, Names, Links}
use Rattle.model.specs.Calls.{Mkdir, Rmdir, Fork, Own}
use Rattle.model.specs.Script.{by_default, fresh, runs}
use Rattle.call_laws.specs.WellFormed.{WellFormed}
use Rattle.call_laws.specs.CallLaws.{IsReady, changed}
use Rattle.call_laws.specs.Exceptions.{ReadyCall, ExceptionsAreNeeded}
use Rattle.call_laws.proofs.Numbers.{unused_nowhere}
use Rattle.call_laws.proofs.Laws.{calls_are_lawful_lem}

-- on a fresh kernel
make : IsReady WellFormed fresh 1 (Mkdir (codes "/a")) (1 ∷ [])
unfolding runs
make = record {
  well = calls_are_lawful_lem.well_start 0 (by_default (0 ∷ 0 ∷ []));
  alive = refl;
  numbers = record { count = refl; unused = (unused_nowhere fresh 1 (calls_are_lawful_lem.well_start 0 (by_default (0 ∷ 0 ∷ []))) refl refl, tt); different = (tt, tt) };
}

abbrev made : Kernel
made = changed fresh 1 (Mkdir (codes "/a")) (1 ∷ [])

remove : IsReady WellFormed made 1 (Rmdir (codes "/a")) []
unfolding runs
remove = record {
  well = calls_are_lawful_lem.well_after fresh 1 (Mkdir (codes "/a")) (1 ∷ []) make;
  alive = refl;
  numbers = record { count = refl; unused = tt; different = tt };
}

fork : IsReady WellFormed fresh 1 Fork []
unfolding runs
fork = record { well = calls_are_lawful_lem.well_start 0 (by_default (0 ∷ 0 ∷ [])); alive = refl; numbers = record { count = refl; unused = tt; different = tt } }

abbrev making : ReadyCall
making = record { state = fresh; pid = 1; call = Mkdir (codes "/a"); chosen = 1 ∷ []; ready = make }

abbrev removing : ReadyCall
removing = record { state = made; pid = 1; call = Rmdir (codes "/a"); chosen = []; ready = remove }

abbrev forking : ReadyCall
forking = record { state = fresh; pid = 1; call = Fork; chosen = []; ready = fork }

not_links : (d n : ℕ) (x : Name) → Entry d x ≢ Links n
not_links d n x e = absurd cc

not_names : (d e : ℕ) (x : Name) → Entry d x ≢ Names e
not_names d e x same = absurd cc

some_names : (x : Name) (xs : List Name) → x ∷ xs ≡ [] → ⊥
some_names x xs e = absurd cc

apart : (m n : ℕ) → m < n → m ≡ n → ⊥
apart m n low e = absurd (omega arith)

no_kind : None ≡ Some A_directory → ⊥
no_kind e = absurd cc

-- the count of processes made
abbrev count_in : Option (ℕ × ℕ) → ℕ
count_in (Some birth) = birth.0
count_in None = 0

pub exceptions_are_needed_lem : ExceptionsAreNeeded
unfolding runs
exceptions_are_needed_lem = record {
  links = (removing, 1, record { directory = refl; unmarked = (not_links 0 1 (codes "a"), tt); differ = λ e. apart 0 1 (omega arith) e });
  names = (making, 0, record { there = refl; unwritten = (not_names 0 0 (codes "a"), tt); differ = λ e. some_names (codes "a") [] e });
  births = (forking, 2, record { alive = refl; other = λ e. apart 1 2 (omega arith) (sym e); differ = λ e. apart 2 3 (omega arith) (sym (ap (λ (o : Own). count_in o.birth) e)) });
  drops = (removing, Names 1, record { there = refl; gone = λ e. no_kind e });
}
