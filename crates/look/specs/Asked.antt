-- What a plan comes to in a state: its result, with the touches of what it asked added to those
-- before, where reads count.
use Rattle.std.specs.Prelude.{◌≡◌, List, ◌++◌, true, false, map, Option, Some, None, Result, Ok, Err, ⊤}
use Rattle.model.specs.State.{Kernel}
use Rattle.model.specs.Aspects.{Aspect}
use Rattle.model.specs.Plan.{Errno as Refused, Plan, Give, Refuse, Ask, answer, shown}
use Rattle.model.specs.Steps.{Touch}
use Rattle.ids.specs.declared.errno.Refusal.{Refusal}
use Rattle.ids.specs.declared.errno.Refusal.TheVariants.{Errno, NoMemory}

-- these aspects are read
abbrev pub reading : List Aspect → List Touch
reading aspects = map (λ a. record { aspect = a; write = false }) aspects

-- these aspects are written
abbrev pub writing : List Aspect → List Touch
writing aspects = map (λ a. record { aspect = a; write = true }) aspects

-- what was read, with these aspects besides; `None` where reads do not count
abbrev pub noting : Option (List Touch) → List Aspect → Option (List Touch)
noting (Some touches) aspects = Some (touches ++ reading aspects)
noting None aspects = None

-- the result of a plan, and what was read before with what its questions read
abbrev pub asked : {A : Type 0} → Kernel → Plan A → Option (List Touch)
    → Result A Refused × Option (List Touch)
asked k (Give x) before = (Ok x, before)
asked k (Refuse e) before = (Err e, before)
asked k (Ask q next) before =
    asked k (next (answer k q)) (noting before (shown q (answer k q)))

abbrev pub IsFrom : {A : Type 0} → Result A Refused × Option (List Touch) → Result A Refusal
    → Option (List Touch) → Type 0
IsFrom r (Ok x) after = r ≡ (Ok x, after)
IsFrom r (Err (Errno e)) after = r ≡ (Err e, after)
IsFrom r (Err NoMemory) after = ⊤

-- A function's answer is what the plan comes to, and so is what was read after it. Refused memory
-- says nothing.
pub record Comes {A : Type 0} (k : Kernel) (m : Plan A)
    (before : Option (List Touch)) (result : Result A Refusal) (after : Option (List Touch))
    : Type 0 where
  pub is : IsFrom (asked k m before) result after

-- The same of a function that asks nothing.
abbrev pub Tells : {A : Type 0} → Plan A → Result A Refusal → Type 0
Tells m result = (k : Kernel) (before : Option (List Touch)) → Comes k m before result before

-- The same of a function that looks at one state, for what is no touch.
abbrev pub TellsIn : {A : Type 0} → Kernel → Plan A → Result A Refusal → Type 0
TellsIn k m result = (before : Option (List Touch)) → Comes k m before result before
