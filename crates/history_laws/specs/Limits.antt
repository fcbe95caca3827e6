-- The plain kernel's limits are never passed: fork, write, ftruncate, fallocate, lseek, symlink, open,
-- dup and pipe refuse what would pass them (EAGAIN, EFBIG, EINVAL, ENAMETOOLONG and EMFILE of
-- POSIX.1-2017, which leaves the numbers to the implementation; of fallocate Linux).
use Rattle.std.specs.Prelude.{◌≡◌, ℕ, ◌≤◌, ◌<◌, List, Some, length}
use Rattle.model.specs.FiniteMap.{get}
use Rattle.model.specs.Changes.{process_of}
use Rattle.call_laws.specs.WellFormed.{most_descriptors}
use Rattle.model.specs.State.{Kernel, file_of, pipe_of, target_of, offset_of}
pub use Rattle.model.specs.Limits.{most_processes, capacity, target_limit}
use Rattle.model.specs.Entries.{Entry}
use Rattle.model.specs.Forgetting.{Limit}
use Rattle.model.specs.Moments.{Setup, Moment, after, seen_by}
use Rattle.model.specs.Legal.{Legal}

-- At most 4,096 processes were ever made, each file has at most the bytes that the kernel lets one
-- have, each pipe at most 4,096, each symbolic link's target at most 4,095, and no offset is past the
-- largest file.
pub record IsWithinLimits (k : Kernel) : Type 0 where
  pub made : k.made ≤ most_processes
  pub files : (n : ℕ) → length (file_of k n) ≤ k.bounds.file_bytes
  pub pipes : (p : ℕ) → length (pipe_of k p) ≤ capacity
  pub targets : (n : ℕ) → length (target_of k n) ≤ target_limit
  pub offsets : (d : ℕ) → offset_of k d ≤ k.bounds.file_bytes

-- each open descriptor is below the kernel's own number of them
abbrev pub HasLowDescriptors : Kernel → Type 0
HasLowDescriptors k =
    (pid f d : ℕ) → get (process_of k pid).table f ≡ Some d → f < most_descriptors k

-- what is committed, and what each process sees
pub record StaysWithinLimits (m : Moment) : Type 0 where
  pub committed : IsWithinLimits m.committed
  pub seen : (pid : ℕ) → IsWithinLimits (seen_by m pid)
  pub descriptors : HasLowDescriptors m.committed
  pub seen_descriptors : (pid : ℕ) → HasLowDescriptors (seen_by m pid)

-- A legal history that starts with no more processes stays within the limits.
abbrev pub LimitsAreKept : Type 0
LimitsAreKept = (root : ℕ) (setup : Setup) (limit : Limit) (es : List Entry)
    → Legal root setup limit es → length setup.priorities ≤ most_processes
    → StaysWithinLimits (after root setup es)

-- What is committed and what each process sees have the bounds that were given at the start.
pub record KeepsItsBounds (root : ℕ) (setup : Setup) (es : List Entry) : Type 0 where
  pub committed : (after root setup es).committed.bounds ≡ setup.bounds
  pub seen : (q : ℕ) → (seen_by (after root setup es) q).bounds ≡ setup.bounds

abbrev pub BoundsAreGiven : Type 0
BoundsAreGiven = (root : ℕ) (setup : Setup) (es : List Entry) → KeepsItsBounds root setup es
