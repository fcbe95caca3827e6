-- What a request does to a kernel: steps of processes, each by the replies to those before, and then
-- an outcome.
use Rattle.std.specs.Prelude.{◌≡◌, ◌⊎◌, ℕ}
use Rattle.model.specs.Entries.{Op, Reply}
use Rattle.machine.specs.Shown.{Shown}
use Rattle.machine.specs.Steps.{IsStep, forgetting}

-- a course gives an outcome, or has a process do an operation and goes on by the reply
pub data Course (A : Type 0) : Type 0 where
  Give : A → Course A
  Step : ℕ → Op → (Reply → Course A) → Course A

infixl 10 ◌>>=◌
abbrev pub ◌>>=◌ : {A B : Type 0} → Course A → (A → Course B) → Course B
(Give x) >>= f = f x
(Step pid op next) >>= f = Step pid op (λ reply. next reply >>= f)

-- one step, whose reply is the outcome
abbrev pub step : ℕ → Op → Course Reply
step pid op = Step pid op Give

-- A step, where what is kept of the history may be forgotten first. After 2^63 entries none are
-- forgotten any more.
abbrev pub IsTaken : Shown → Shown → ℕ → Op → Reply → Type 0
IsTaken old new pid op reply = IsStep old new pid op reply ⊎ IsStep (forgetting old) new pid op reply

-- the steps that a course takes from one state of the kernel to another, and its outcome
abbrev pub HasRun : {A : Type 0} → Shown → Course A → A → Shown → Type 0
HasRun old (Give x) outcome new = (outcome ≡ x) × (new ≡ old)
HasRun old (Step pid op next) outcome new =
    (reply : Reply) × (mid : Shown) × IsTaken old mid pid op reply
    × HasRun mid (next reply) outcome new

-- a course was run: from one state of the kernel to another, with this outcome
pub record Ran {A : Type 0} (old : Shown) (c : Course A) (outcome : A) (new : Shown) : Type 0 where
  pub is : HasRun old c outcome new

-- A beginning of a course was run: no step of it, or some, or all.
abbrev pub HasBegun : {A : Type 0} → Shown → Course A → Shown → Type 0
HasBegun old (Give x) new = new ≡ old
HasBegun old (Step pid op next) new = (new ≡ old)
    ⊎ ((reply : Reply) × (mid : Shown) × IsTaken old mid pid op reply × HasBegun mid (next reply) new)

pub record Began {A : Type 0} (old : Shown) (c : Course A) (new : Shown) : Type 0 where
  pub is : HasBegun old c new

-- all steps of a course are of one process
abbrev pub IsBy : {A : Type 0} → ℕ → Course A → Type 0
IsBy pid (Give x) = Unit {0}
IsBy pid (Step p op next) = (p ≡ pid) × ((reply : Reply) → IsBy pid (next reply))
