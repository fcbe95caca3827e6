-- The lowest descriptor that is not open, where it is below the limit, is the first of those that are free.
use Rattle.std.proofs.Common.{◌≡◌, ◌≢◌, ℕ, ◌<◌, ◌≤◌, true, Option, Some, None, refl, sym, ap, subst, arith}
use Rattle.std.specs.Option.{is_some}
use Rattle.model.specs.FiniteMap.{get}
use Rattle.model.specs.State.{Kernel}
use Rattle.model.specs.Changes.{process_of}
use Rattle.look.specs.Shown.{first_free}
use Rattle.look.proofs.Laws.{all_are_open, limit_of, lowest_is_first}

there : (o : Option ℕ) → o ≢ None → is_some o ≡ true
there (Some x) some = refl
there None some = absurd (some refl)

module _ (k : Kernel) (pid first free limit : ℕ) (is : limit ≡ limit_of k pid) where
  pub first_found : first ≤ free → get (process_of k pid).table free ≡ None → ((f : ℕ) → first ≤ f → f < free → get (process_of k pid).table f ≢ None)
      → free < limit → Some free ≡ first_free k pid first
  first_found from none taken below =
      sym (lowest_is_first k pid first free from (subst (λ n. free < n) is below) (ap is_some none) (λ g high under. there (get (process_of k pid).table g) (taken g high under)))

  pub none_found : ((f : ℕ) → first ≤ f → f < free → get (process_of k pid).table f ≢ None) → limit ≤ free → None ≡ first_free k pid first
  none_found taken past =
      sym (all_are_open k pid first (λ g from low.
      let under : g < limit = subst (λ n. g < n) (sym is) low in
      there (get (process_of k pid).table g) (taken g from (omega (arith, under, past)))))
