-- What a log remembers, in order.
use Rattle.std.specs.Prelude.{ℕ, List, [], ◌∷◌, ◌++◌}
use Rattle.model.specs.Changes.{Edit}
use Rattle.model.specs.Effects.{Effect}
use Rattle.notes.specs.declared.log.Log.{Log, Start, Then'}

-- what a call changes
abbrev pub effect : List ℕ → List Edit → Effect
effect chosen edits = record { chosen = chosen; edits = edits }

abbrev pub effects_in : Log → List Effect
effects_in Start = []
effects_in (Then' shape before chosen edits) =
    effects_in before ++ effect chosen.value edits.value.items ∷ []
