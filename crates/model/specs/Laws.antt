-- What holds of all calls.
use Rattle.std.specs.Prelude.{◌≡◌, ℕ}
use Rattle.model.specs.State.{Kernel}
use Rattle.model.specs.Aspects.{KeepsAll}
use Rattle.model.specs.Calls.{Call, own}
use Rattle.model.specs.Steps.{reads, reply, edits, touches}

-- a call goes the same way in two states
pub record GoesTheSame (now later : Kernel) (pid : ℕ) (call : Call) : Type 0 where
  pub reply : reply later pid call ≡ reply now pid call
  pub touches : touches later pid call ≡ touches now pid call
  pub edits : edits later pid call ≡ edits now pid call

-- Locality: where a later state keeps all that a call saw, and the process's own part
-- is the same, the call goes the same way.
abbrev pub DependsOnWhatItSaw : Type 0
DependsOnWhatItSaw =
    (now later : Kernel) (pid : ℕ) (call : Call) → own later pid call ≡ own now pid call
    → KeepsAll now later (reads now pid call) → GoesTheSame now later pid call
