-- The bytes of a setup, field by field: the number of the form, the bounds, how many first processes
-- there are, and the priority of each.
use Rattle.std.specs.Prelude.{ℕ, ◌<◌, ◌≤◌, ◌^◌, List, [], ◌∷◌, ◌++◌, length}
use Rattle.std.specs.List.{flat_map, AllByRecursion}
use Rattle.ids.specs.declared.limits.Bounds.{Bounds}
use Rattle.ids.specs.declared.limits.TheConstants.{LARGEST_FILE, MAX_PROCESSES}
use Rattle.model.specs.Moments.{Setup}
use Rattle.entry_codec.specs.Parts.{u32_bytes}

abbrev pub form : ℕ
form = 1

abbrev pub bounds_bytes : Bounds → List ℕ
bounds_bytes bounds =
    u32_bytes bounds.file_bytes ++ u32_bytes bounds.descriptors ++ u32_bytes bounds.path_bytes

-- a priority is one byte
abbrev pub priority_bytes : ℕ → List ℕ
priority_bytes priority = priority ∷ []

abbrev pub priorities_bytes : List ℕ → List ℕ
priorities_bytes priorities = u32_bytes (length priorities) ++ flat_map priority_bytes priorities

-- what stands behind the number of the form
abbrev pub body_bytes : Setup → List ℕ
body_bytes setup = bounds_bytes setup.bounds ++ priorities_bytes setup.priorities

unfoldable pub setup_bytes : Setup → List ℕ
setup_bytes setup = u32_bytes form ++ body_bytes setup

-- Each number is in its range.
pub record AreBounds (bounds : Bounds) : Type 0 where
  pub file_bytes : bounds.file_bytes ≤ LARGEST_FILE
  pub descriptors : bounds.descriptors < 2 ^ 32
  pub path_bytes : bounds.path_bytes < 2 ^ 32

pub record ArePriorities (priorities : List ℕ) : Type 0 where
  pub some : 0 < length priorities
  pub not_too_many : length priorities ≤ MAX_PROCESSES
  pub levels : AllByRecursion (λ p. p < 8) priorities

-- a kernel can be made with it
pub record IsSetup (setup : Setup) : Type 0 where
  pub bounds : AreBounds setup.bounds
  pub priorities : ArePriorities setup.priorities
