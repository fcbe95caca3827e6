-- What the handles of workers' threads promise.
use Rattle.std.specs.Prelude.{◌≡◌, ◌++◌, ℕ, List, [], None, map}
use Rattle.std.specs.List.{AllByRecursion}
use Rattle.std.specs.declared.thread.PromisedHandle.{PromisedHandle}
use Rattle.ids.specs.declared.call.Op.{Op}
use Rattle.ids.specs.declared.reply.Reply.{Reply}
use Rattle.script.specs.declared.read.Line.{Line}
use Rattle.workers.specs.declared.threads.Family.{Family}
use Rattle.workers.specs.declared.threads.FamilyOf.{FamilyOf}
use Rattle.workers.specs.Families.{AreFamilies}

-- a port to the kernel h through which nothing was done yet
abbrev pub IsNew : {P H : Type 0} → (P → H) → (P → List (Op × Reply)) → H → P → Type 0
IsNew home done h port = (done port ≡ []) × (home port ≡ h)

-- Unless a worker was stopped, the ports that came back are the families of these processes.
abbrev pub Returned : {P H A : Type 0} (number : P → ℕ) (home : P → H) (done : P → List (Op × Reply))
    → List Line → H → List ℕ → Family P A → Type 0
Returned number home done lines h processes family =
    family.stop ≡ None → AreFamilies number home done lines h processes family.ports.items

-- what the threads promise
abbrev pub promises : {T Q : Type 0} → List (PromisedHandle T Q) → List Q
promises threads = map (λ thread. thread.promise) threads

-- the processes whose families the threads give back
abbrev pub promised : {P L A : Type 0} → List (PromisedHandle (Family P A) (FamilyOf L)) → List ℕ
promised threads = map (λ promise. promise.process) (promises threads)

-- each thread works over these lines
abbrev pub AreOver : {P L A : Type 0}
    → L → List (PromisedHandle (Family P A) (FamilyOf L)) → Type 0
AreOver lines threads = AllByRecursion (λ promise. promise.lines.value ≡ lines) (promises threads)

-- The ports have grown by the families of these processes.
pub record Added {P H : Type 0} (number : P → ℕ) (home : P → H) (done : P → List (Op × Reply))
    (lines : List Line) (h : H) (processes : List ℕ) (old new : List P)
    : Type 0 where
  pub families : List P
  pub grown : new ≡ old ++ families
  pub each : AreFamilies number home done lines h processes families
