-- What holds of a mounted tree at any time.
use Rattle.std.specs.Prelude.{◌≡◌, ℕ, ◌+◌, ◌≤◌, ◌<◌, Some}
use Rattle.std.specs.Ordering.{nat_cmp}
use Rattle.model.specs.FiniteMap as map
use Rattle.machine.specs.Shown.{Shown}
use Rattle.course.specs.Hands.{made_in, priority_in}
use Rattle.mount_tables.specs.declared.views.View.{View}
use Rattle.mount_tables.specs.declared.processes.Role.{Role}
use Rattle.mount_tables.specs.declared.processes.Role.TheVariants.{Idle, Holder, Of}
use Rattle.mount_requests.specs.Seen.{Seen}

-- Each process has one role at most: the first eight have none, of which the first one serves the plain
-- tree. A view's process serves that view alone, so those of two views, of the plain tree and of those
-- that wait are apart; and it has the view's priority in the kernel's own state, as those that wait have
-- the one that they wait for.
pub record IsSound (s : Seen) (v : Shown) : Type 0 where
  pub views : (number : ℕ) (view : View) → map.get s.views number ≡ Some view
      → map.get s.roles view.pid ≡ Some (Of number)
  pub levels : (number : ℕ) (view : View) → map.get s.views number ≡ Some view
      → priority_in v view.pid ≡ view.level
  pub made : (pid : ℕ) (role : Role) → map.get s.roles pid ≡ Some role → (8 < pid) × (pid ≤ made_in v)
  pub waiting : (pid level : ℕ) → map.get s.roles pid ≡ Some (Idle level) → priority_in v pid ≡ level
  pub numbers : (number : ℕ) (view : View) → map.get s.views number ≡ Some view → number < s.next_view
  pub first : 8 ≤ made_in v
  pub levels_first : (level : ℕ) → level < 8 → priority_in v (level + 1) ≡ level

-- what is sound stays so
abbrev pub StaysSound : Seen → Shown → Seen → Shown → Type 0
StaysSound s v later w = IsSound s v → IsSound later w

-- the roles for which the first process of a priority makes others: they serve no view
abbrev pub IsFor : ℕ → Role → Type 0
IsFor level (Idle wanted) = wanted ≡ level
IsFor level (Holder used) = Unit {0}
IsFor level (Of view) = ⊥

-- what is sound with some roles stays so with others, whatever else is known
abbrev pub RolesStaySound : map.FinMap nat_cmp Role → Shown → map.FinMap nat_cmp Role → Shown → Type 0
RolesStaySound roles v known w = (s : Seen) → s.roles ≡ roles → IsSound s v
    → IsSound (record s { roles = known }) w
