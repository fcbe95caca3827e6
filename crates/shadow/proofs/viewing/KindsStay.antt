-- The kind of an inode that is committed, with a transaction's changes on top.
use Rattle.std.proofs.Common.{◌≡◌, ℕ, List, [], ◌∷◌, Some}
use Rattle.model.specs.State.{Kernel, Kind, kind_of}
use Rattle.model.specs.Changes.{Edit, all_applied, applied}
use Rattle.model.specs.Effects.{Effect, all_done}
use Rattle.call_laws.specs.Fits.{FitsAll}
use Rattle.call_laws.proofs.Laws.{edit_grows}
use Rattle.freeing_laws.specs.Sweep.{AllFit}

edits_keep : (chosen : List ℕ) (es : List Edit) (k : Kernel) → FitsAll chosen k es → (n : ℕ) (what : Kind) → kind_of k n ≡ Some what → kind_of (all_applied chosen es k) n ≡ Some what
edits_keep chosen [] k f n what is = is
edits_keep chosen (e ∷ es) k f n what is = edits_keep chosen es (applied chosen e k) f.1 n what ((edit_grows chosen k e f.0).kinds n what is)

-- no change takes an inode away that was there, or makes another kind of it
pub kinds_stay : (fs : List Effect) (k : Kernel) → AllFit fs k → (n : ℕ) (what : Kind) → kind_of k n ≡ Some what → kind_of (all_done fs k) n ≡ Some what
kinds_stay [] k f n what is = is
kinds_stay (d ∷ fs) k f n what is = kinds_stay fs (all_applied d.chosen d.edits k) f.1 n what (edits_keep d.chosen d.edits k f.0 n what is)
