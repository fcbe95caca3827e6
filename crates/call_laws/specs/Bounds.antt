-- The most bytes of a file, how many descriptors a process may have, and the most bytes of a path:
-- nothing changes them.
use Rattle.std.specs.Prelude.{◌≡◌, ℕ, List}
use Rattle.model.specs.State.{Kernel}
use Rattle.model.specs.Changes.{Edit, all_applied, tidy}
use Rattle.model.specs.Entries.{Executed}
use Rattle.model.specs.Moments.{after_list, loose}

pub record BoundsStay : Type 0 where
  -- no edits change them, nor does tidying
  pub all : (chosen : List ℕ) (es : List Edit) (k : Kernel)
      → (all_applied chosen es k).bounds ≡ k.bounds
  pub tidied : (k : Kernel) → (tidy k).bounds ≡ k.bounds
  -- nor a list of calls, tidied after each and not
  pub listed : (pid : ℕ) (es : List Executed) (k : Kernel)
      → (after_list pid es k).bounds ≡ k.bounds
  pub loosely : (pid : ℕ) (es : List Executed) (k : Kernel)
      → (loose pid es k).bounds ≡ k.bounds
