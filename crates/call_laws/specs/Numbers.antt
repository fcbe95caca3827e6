-- Numbers for new objects.
use Rattle.std.specs.Prelude.{◌≡◌, ℕ, List, None, true}
use Rattle.model.specs.FiniteMap.{get}
use Rattle.model.specs.State.{Kernel}
use Rattle.model.specs.Calls.{Call}
use Rattle.model.specs.Steps.{IsNowhere}
use Rattle.model.specs.Moments.{is_alive}
use Rattle.call_laws.specs.WellFormed.{WellFormed}
use Rattle.call_laws.specs.CallLaws.{IsReady}

-- In a well-formed state a number that is no inode and no description
-- is given by no name and by no descriptor.
abbrev pub UnusedNumbersAreNowhere : Type 0
UnusedNumbersAreNowhere =
    (k : Kernel) (n : ℕ) → WellFormed k → get k.inodes n ≡ None → get k.descriptions n ≡ None
    → IsNowhere k n

-- A living process can make each call, since there are always numbers that can be chosen.
abbrev pub EveryCallCanBeMade : Type 0
EveryCallCanBeMade =
    (k : Kernel) (pid : ℕ) (call : Call) → WellFormed k → is_alive k pid ≡ true
    → (chosen : List ℕ) × IsReady WellFormed k pid call chosen
