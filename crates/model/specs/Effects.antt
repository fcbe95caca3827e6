-- What a call does, as its new numbers and its edits, and what such effects make of a
-- state, one after the other and untidied.
use Rattle.std.specs.Prelude.{ℕ, List, [], ◌∷◌}
use Rattle.model.specs.State.{Kernel}
use Rattle.model.specs.Changes.{Edit, all_applied}
use Rattle.model.specs.Steps.{edits}
use Rattle.model.specs.Entries.{Executed}
use Rattle.model.specs.Moments.{after_one}

pub record Effect : Type 0 where
  pub chosen : List ℕ
  pub edits : List Edit

-- each call's effect in the state that it finds
abbrev pub effects : ℕ → List Executed → Kernel → List Effect
effects pid [] k = []
effects pid (e ∷ es) k =
    record { chosen = e.chosen; edits = edits k pid e.call } ∷ effects pid es (after_one pid e k)

-- the state after all of them
abbrev pub all_done : List Effect → Kernel → Kernel
all_done [] k = k
all_done (d ∷ ds) k = all_done ds (all_applied d.chosen d.edits k)
