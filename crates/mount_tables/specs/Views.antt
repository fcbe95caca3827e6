-- The transactions that are mounted, by their numbers and by their names, and how they change.
use Rattle.std.specs.Prelude.{ℕ, Bool, true, false, refl}
use Rattle.std.specs.Prelude.{Option, Some, None}
use Rattle.std.specs.Coded.{Coded, code_by, coded×, coded_ℕ, coded_list}
use Rattle.std.specs.Cmp.Lexicographic.{slice_cmp}
use Rattle.std.specs.Ordering.{nat_cmp}
use Rattle.model.specs.FiniteMap as map
use Rattle.ids.specs.declared.aspect.Why.{Why}
use Rattle.mount_tables.specs.declared.views.State.{State}
use Rattle.mount_tables.specs.declared.views.State.TheVariants.{Live, Aborted, Committed, GivenUp}
use Rattle.mount_tables.specs.declared.views.View.{View}

-- The view of each number, the number that each name leads to, in the order of their bytes, and the
-- number that is next.
pub record Mounted : Type 0 where
  pub each : map.FinMap nat_cmp View
  pub numbers : map.FinMap (slice_cmp nat_cmp) ℕ
  pub next : ℕ

abbrev pub mounted_code : Coded View → Coded Mounted
mounted_code view = code_by (map.FinMap nat_cmp View × (map.FinMap (slice_cmp nat_cmp) ℕ × ℕ))
    (coded× (map.code coded_ℕ view) (coded× (map.code (coded_list coded_ℕ) coded_ℕ) coded_ℕ))
    (λ v. (v.each, (v.numbers, v.next)))
    (λ q. record { each = q.0; numbers = q.1.0; next = q.1.1 }) (λ _. refl)

abbrev pub view_of_process : ℕ → ℕ → State → View
view_of_process pid level state = record { pid = pid; level = level; state = state }

-- the view of a number, if there is one, stands like this
abbrev pub standing : State → ℕ → Option View → map.FinMap nat_cmp View → map.FinMap nat_cmp View
standing state number None each = each
standing state number (Some view) each = map.insert each number (record view { state = state })

-- the transaction of a number goes on, by this process
abbrev pub started : ℕ → ℕ → Option View → map.FinMap nat_cmp View → map.FinMap nat_cmp View
started pid number None each = each
started pid number (Some view) each =
    map.insert each number (record { pid = pid; level = view.level; state = Live })

-- a transaction that goes on is aborted for this, and one that is over stays as it is
abbrev pub aborted_by : Why → State → State
aborted_by why Live = Aborted why
aborted_by why (Aborted former) = Aborted former
aborted_by why Committed = Committed
aborted_by why GivenUp = GivenUp

abbrev pub is_live : State → Bool
is_live Live = true
is_live (Aborted why) = false
is_live Committed = false
is_live GivenUp = false

-- the process and the priority of a transaction that goes on
abbrev pub live_by : View → State → Option (ℕ × ℕ)
live_by view Live = Some (view.pid, view.level)
live_by view (Aborted why) = None
live_by view Committed = None
live_by view GivenUp = None

abbrev pub live_process : Option View → Option (ℕ × ℕ)
live_process None = None
live_process (Some view) = live_by view view.state

-- the transaction of a number is aborted, if it goes on
abbrev pub aborted_if : Why → ℕ → View → State → map.FinMap nat_cmp View → map.FinMap nat_cmp View
aborted_if why number view Live each = map.insert each number (record view { state = Aborted why })
aborted_if why number view (Aborted former) each = each
aborted_if why number view Committed each = each
aborted_if why number view GivenUp each = each

abbrev pub aborted : Why → ℕ → Option View → map.FinMap nat_cmp View → map.FinMap nat_cmp View
aborted why number None each = each
aborted why number (Some view) each = aborted_if why number view view.state each

-- the view to which a name led goes
abbrev pub unnamed : Option ℕ → map.FinMap nat_cmp View → map.FinMap nat_cmp View
unnamed None each = each
unnamed (Some number) each = map.remove each number
