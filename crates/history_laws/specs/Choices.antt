-- That legal histories go on: each operation that finds its places has a right entry.
use Rattle.std.specs.Prelude.{◌≡◌, ℕ, List}
use Rattle.model.specs.Entries.{Op}
use Rattle.model.specs.Forgetting.{Limit}
use Rattle.model.specs.Moments.{Moment, status}
use Rattle.model.specs.Legal.{Free, Right}
use Rattle.model.specs.Replies.{needed, entry_for}
use Rattle.history_laws.specs.Each.{AfterEach}

-- with some new numbers the entry that is computed for the operation is right
abbrev pub HasRightEntry : Limit → Moment → ℕ → Op → Type 0
HasRightEntry limit m pid op = (chosen : List ℕ)
    × Right limit m (entry_for limit m (record { pid = pid; op = op; chosen = chosen }))

-- Whatever a process asks, where as many places are free as it needs, there is a right entry.
abbrev pub RightEntriesExist : Type 0
RightEntriesExist = AfterEach (λ limit m. (pid : ℕ) (op : Op)
    → Free limit m (needed (status m pid) op) → HasRightEntry limit m pid op)

-- What needs no place always has one: the end of a live transaction, its abort, and the notice to
-- a doomed one.
abbrev pub EndsFindPlaces : Type 0
EndsFindPlaces = AfterEach (λ limit m. (pid : ℕ) (op : Op)
    → needed (status m pid) op ≡ 0 → HasRightEntry limit m pid op)
