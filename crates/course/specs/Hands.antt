-- A process of a kernel, with which a request steps.
use Rattle.std.specs.Prelude.{◌≡◌, ◌≤◌, suc, ℕ, List, ◌++◌, Bool, false}
use Rattle.std.specs.List.{AllByRecursion}
use Rattle.ids.specs.declared.entry.Entry.{Entry}
use Rattle.model.specs.Changes.{process_of}
use Rattle.model.specs.Entries.{Op, Do}
use Rattle.history_laws.specs.Processes.{is_exit}
use Rattle.machine.specs.Shown.{Shown, Kept}

-- the process, what the kernel was when the request began, and what it is
pub record Held : Type 0 where
  pub pid : ℕ
  pub since : Shown
  pub shown : Shown

-- what stays while a request steps: the process, and what the kernel was
abbrev pub bound : Held → ℕ × Shown
bound h = (h.pid, h.since)

-- there are some entries more, all of one process
pub record IsSince (pid : ℕ) (old new : List Entry) : Type 0 where
  pub more : List Entry
  pub is : new ≡ old ++ more
  pub by : AllByRecursion (λ (e : Entry). e.pid ≡ pid) more

-- ---- processes

-- how many processes were made, whose numbers are 1, 2, and so on; and the priority of one
abbrev pub made_in : Shown → ℕ
made_in v = v.state.made

abbrev pub priority_in : Shown → ℕ → ℕ
priority_in v pid = (process_of v.state pid).priority

-- whether an operation ends its process
abbrev pub is_ending : Op → Bool
is_ending (Do call) = is_exit call
is_ending _ = false

-- No process has ended meanwhile: all that were made are there, each with its priority.
pub record Stand (old new : Shown) : Type 0 where
  pub made : made_in old ≤ made_in new
  pub priority : (pid : ℕ) → pid ≤ made_in old → priority_in new pid ≡ priority_in old pid

-- A child has the number that comes next, and the priority of the process that made it.
pub record IsChild (old : Shown) (maker child : ℕ) (new : Shown) : Type 0 where
  pub number : child ≡ suc (made_in old)
  pub made : made_in new ≡ child
  pub priority : priority_in new child ≡ priority_in old maker

-- The kernel's history is legal, since the request began all entries are of the process, and no
-- process has ended.
pub record IsHeld (h : Held) : Type 0 where
  pub kept : Kept h.shown
  pub since : IsSince h.pid h.since.log.entries h.shown.log.entries
  pub stand : Stand h.since h.shown
