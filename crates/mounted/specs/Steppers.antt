-- Which process may step for a request.
use Rattle.std.specs.Prelude.{◌≡◌, ◌≢◌, ◌⊎◌, ℕ, List, Some, Bool, true, false}
use Rattle.model.specs.FiniteMap as map
use Rattle.ids.specs.declared.entry.Entry.{Entry}
use Rattle.fuse.specs.declared.request.Operation.{Operation}
use Rattle.fuse.specs.declared.request.Operation.TheVariants as asked
use Rattle.nodes.specs.Tables.{root_of}
use Rattle.course.specs.Hands.{IsSince}
use Rattle.mount_tables.specs.Numbers.{class_of, view_of}
use Rattle.mount_tables.specs.declared.views.View.{View}
use Rattle.mount_tables.specs.declared.numbers.Class.TheVariants.{Tree}
use Rattle.mount_tables.specs.declared.views.State.TheVariants.{Live}
use Rattle.mount_requests.specs.Apart.{AreApart}
use Rattle.mount_requests.specs.Seen.{Seen}

-- the process is that of the view's transaction, which goes on
pub record IsStepper (s : Seen) (view process : ℕ) : Type 0 where
  pub found : View
  pub is : map.get s.views view ≡ Some found
  pub live : found.state ≡ Live
  pub pid : found.pid ≡ process

-- Below a view only the process of its transaction steps, while that goes on. Where it does not,
-- nothing is done.
abbrev pub StaysInView : Seen → ℕ → List Entry → List Entry → Type 0
StaysInView s node old new =
    class_of node ≡ Tree → (view : ℕ) → view_of (root_of s.nodes node) ≡ Some view → view ≢ 0
    → (new ≡ old) ⊎ ((pid : ℕ) × IsStepper s view pid × IsSince pid old new)

-- What a request about a node below a view does to times is seen in no other view: each object has the
-- times there that it had. If one was made with its number nothing is known of it there.
abbrev pub TimesStayInView : Seen → Seen → ℕ → Type 0
TimesStayInView s later node =
    class_of node ≡ Tree → (view : ℕ) → view_of (root_of s.nodes node) ≡ Some view → view ≢ 0
    → AreApart s later view

-- a file of a transaction that is over may be closed still
abbrev pub is_release : Operation → Bool
is_release (asked.Release handle flags) = true
is_release _ = false
