-- The processes by which requests step: what each is for, and how that changes.
use Rattle.std.specs.Prelude.{◌≡◌, ℕ, ◌+◌, ◌-◌, ◌<◌, ◌^◌, ◌==◌, nat_lt, min, Bool, false, refl}
use Rattle.std.specs.Prelude.{Option, Some, None, ◌⊎◌}
use Rattle.std.proofs.Common.{inl, inr}
use Rattle.std.specs.Coded.{Coded, code_by, coded×, coded⊎, coded_ℕ}
use Rattle.std.specs.Ordering.{nat_cmp}
use Rattle.model.specs.FiniteMap as map
use Rattle.mount_tables.specs.declared.processes.Role.{Role}
use Rattle.mount_tables.specs.declared.processes.Role.TheVariants.{Idle, Holder, Of}
use Rattle.mount_tables.specs.declared.processes.Wanted.{Wanted}
use Rattle.mount_tables.specs.declared.processes.Wanted.TheVariants.{Waiting, Holding}

-- a role as one of three numbers
abbrev pub role_parts : Role → ℕ ⊎ (ℕ ⊎ ℕ)
role_parts (Idle level) = inl level
role_parts (Holder used) = inr (inl used)
role_parts (Of view) = inr (inr view)

abbrev pub role_from : ℕ ⊎ (ℕ ⊎ ℕ) → Role
role_from (inl level) = Idle level
role_from (inr (inl used)) = Holder used
role_from (inr (inr view)) = Of view

pub role_back : (role : Role) → role_from (role_parts role) ≡ role
role_back (Idle level) = refl
role_back (Holder used) = refl
role_back (Of view) = refl

abbrev pub role_code : Coded Role
role_code = code_by (ℕ ⊎ (ℕ ⊎ ℕ)) (coded⊎ coded_ℕ (coded⊎ coded_ℕ coded_ℕ)) role_parts role_from role_back

-- what each process is for, by its number, and for how many more there is room
pub record Roles : Type 0 where
  pub roles : map.FinMap nat_cmp Role
  pub room : ℕ

abbrev pub roles_code : Coded Roles
roles_code = code_by (map.FinMap nat_cmp Role × ℕ) (coded× (map.code coded_ℕ role_code) coded_ℕ)
    (λ r. (r.roles, r.room)) (λ q. record { roles = q.0; room = q.1 }) (λ _. refl)

-- a process of the plain tree has one file more open, as far as 64 bits count
abbrev pub held : ℕ → Option Role → map.FinMap nat_cmp Role → map.FinMap nat_cmp Role
held pid (Some (Holder used)) roles = map.insert roles pid (Holder (min (used + 1) (2 ^ 64 - 1)))
held pid (Some (Idle level)) roles = roles
held pid (Some (Of view)) roles = roles
held pid None roles = roles

-- or one less
abbrev pub let_go : ℕ → Option Role → map.FinMap nat_cmp Role → map.FinMap nat_cmp Role
let_go pid (Some (Holder used)) roles = map.insert roles pid (Holder (used - 1))
let_go pid (Some (Idle level)) roles = roles
let_go pid (Some (Of view)) roles = roles
let_go pid None roles = roles

-- a process of the plain tree has a descriptor free, where each may have so many
abbrev pub HasFree : ℕ → Option Role → Type 0
HasFree most role = (used : ℕ) × (role ≡ Some (Holder used)) × (used < most)

-- what a process is looked for: to wait for a transaction of a priority, or to open a file where each
-- may have so many descriptors
abbrev pub fits : Role → Wanted → Bool
fits (Idle level) (Waiting wanted) = level == wanted
fits (Holder used) (Holding most) = nat_lt used most
fits (Idle level) (Holding most) = false
fits (Holder used) (Waiting wanted) = false
fits (Of view) wanted = false

abbrev pub is_fit : Option Role → Wanted → Bool
is_fit (Some role) wanted = fits role wanted
is_fit None wanted = false
