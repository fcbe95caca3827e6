-- The lowest free descriptor by the rule is the first of those that are free.
use Rattle.std.proofs.Common.{◌≡◌, ◌≢◌, ℕ, ◌<◌, true, Option, Some, None, refl, sym, ap, subst}
use Rattle.std.specs.Option.{is_some}
use Rattle.model.specs.FiniteMap.{get}
use Rattle.model.specs.State.{Kernel}
use Rattle.model.specs.Changes.{process_of}
use Rattle.fdtable.specs.Lowest.{IsLowest}
use Rattle.look.specs.Shown.{first_free}
use Rattle.look.proofs.Laws.{all_are_open, limit_of, lowest_is_first}

there : (o : Option ℕ) → o ≢ None → is_some o ≡ true
there (Some x) some = refl
there None some = absurd (some refl)

pub first_is : (k : Kernel) (pid first limit : ℕ) (r : Option ℕ) → limit ≡ limit_of k pid → IsLowest (process_of k pid).table first limit r → r ≡ first_free k pid first
first_is k pid first limit (Some f) is h =
    sym (lowest_is_first k pid first f h.0.0 (subst (λ n. f < n) is h.1) (ap is_some h.0.1)
    (λ g from below. there (get (process_of k pid).table g) (h.0.2 g from below)))
first_is k pid first limit None is h =
    sym (all_are_open k pid first (λ g from low. there (get (process_of k pid).table g) (h g from (subst (λ n. g < n) (sym is) low))))
