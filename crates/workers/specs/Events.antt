-- How far a worker has come.
use Rattle.std.specs.Prelude.{◌≡◌, ℕ, List, [], ◌∷◌, ◌++◌, Option, Some, None}
use Rattle.ids.specs.declared.call.Op.{Op}
use Rattle.ids.specs.declared.reply.Reply.{Reply}
use Rattle.workers.specs.declared.worker.Event.{Event}
use Rattle.workers.specs.declared.worker.Event.TheVariants.{Ended, Forked, Stopped}
use Rattle.workers.specs.Port.{fork, child_reply}
use Rattle.workers.specs.Rules.{Position}
use Rattle.workers.specs.Families.{children}
use Rattle.workers.specs.Work.{IsStopped, IsWork, Stands}

-- the operation was a fork, and made a child whose port is new and leads to the kernel h
pub record IsBorn {P H : Type 0} (number : P → ℕ) (home : P → H) (done : P → List (Op × Reply))
    (h : H) (operation : Op) (old new : List (Op × Reply)) (pid : ℕ) (child : P)
    : Type 0 where
  pub is_fork : operation ≡ fork
  pub list : new ≡ old ++ (fork, child_reply pid) ∷ []
  pub number_is : number child ≡ pid
  pub home_is : home child ≡ h
  pub fresh : done child ≡ []

-- The worker of these lines goes on, from its position, or has come to the end, to a child, or to a
-- refusal. Only a fork that made a child adds one.
abbrev pub Comes : {P H : Type 0} → (P → ℕ) → (P → H) → (P → List (Op × Reply)) → H → List Op
    → List (Op × Reply) → List (Op × Reply) → Position → Option (Event P) → Type 0
Comes number home done h lines old new position None =
    Stands lines new position × (children new ≡ children old)
Comes number home done h lines old new position (Some Ended) =
    IsWork lines new × (children new ≡ children old)
Comes number home done h lines old new position (Some (Forked pid child)) = Stands lines new position
    × (children new ≡ children old ++ pid ∷ []) × (number child ≡ pid) × (home child ≡ h)
    × (done child ≡ [])
Comes number home done h lines old new position (Some (Stopped fault)) = IsStopped lines new
