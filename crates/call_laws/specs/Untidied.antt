-- How a list of calls runs on states that are not tidied between them.
use Rattle.std.specs.Prelude.{◌≡◌, ℕ, List, [], ◌∷◌, ⊤}
use Rattle.model.specs.State.{Kernel}
use Rattle.model.specs.Steps.{reply}
use Rattle.model.specs.Entries.{Executed}
use Rattle.model.specs.Moments.{after_one}
use Rattle.call_laws.specs.CallLaws.{IsReady}

-- each call is ready, and answered as it was
abbrev pub Goes : (Kernel → Type 0) → Kernel → ℕ → List Executed → Type 0
Goes Well k pid [] = ⊤
Goes Well k pid (e ∷ es) =
    (IsReady Well k pid e.call e.chosen × (e.answer ≡ reply k pid e.call))
    × Goes Well (after_one pid e k) pid es
