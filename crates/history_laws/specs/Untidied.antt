-- What a list of calls does on states that are not tidied between them.
use Rattle.std.specs.Prelude.{◌≡◌, ℕ, List}
use Rattle.model.specs.State.{Kernel}
use Rattle.model.specs.Entries.{Executed}
use Rattle.model.specs.Moments.{loose}
use Rattle.model.specs.Effects.{effects, all_done}

-- A list run untidied is its effects, one after the other.
abbrev pub ListsAreTheirEffects : Type 0
ListsAreTheirEffects = (pid : ℕ) (es : List Executed) (k : Kernel)
    → loose pid es k ≡ all_done (effects pid es k) k
