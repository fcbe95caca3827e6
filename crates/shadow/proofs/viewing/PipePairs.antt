-- The two descriptions of a pipe, with a transaction's changes on top.
use Rattle.std.proofs.Common.{◌≡◌, ℕ, List, Option, Some, None, IfSome, refl, sym}
use Rattle.model.specs.FiniteMap.{get}
use Rattle.model.specs.State.{A_pipe, Directory, File, Fixed, Inode, Kernel, Pipe, kind, mapped}
use Rattle.model.specs.Effects.{Effect, all_done}
use Rattle.call_laws.specs.WellFormed.{WellFormed}
use Rattle.freeing_laws.specs.Pipes.{ArePair}
use Rattle.freeing_laws.specs.Sweep.{AllFit}
use Rattle.freeing_laws.proofs.Pipes.{pipes_keep_their_ends_lem}
use Rattle.store.specs.Shown.{pipe_inode}
use Rattle.store.specs.declared.OpenPipe.{OpenPipe}
use Rattle.shadow.specs.Agrees.{Agrees}
use Rattle.notes.specs.Patches.{Patches, net_at, new_ends}

-- of a pipe that is new
pub new_pair_told : (ds : List Effect) (p : Patches) → Agrees ds p → (k : Kernel) → WellFormed k → AllFit ds k → (n : ℕ) (o : Option (ℕ × ℕ)) → o ≡ new_ends (net_at p.inodes n).contents
    → IfSome o (λ ends. ArePair (all_done ds k).descriptions n ends.0 ends.1)
new_pair_told ds p agrees k well fits n None is = tt
new_pair_told ds p agrees k well fits n (Some ends) is = agrees.pipes k n ends (sym is) well fits

is_pipe : (o : Option Inode) (bytes : List ℕ) → pipe_inode o ≡ Some (Pipe bytes) → mapped kind o ≡ Some A_pipe
is_pipe (Some (Pipe bytes)) other is = refl
is_pipe (Some (File bytes)) other is = absurd cc
is_pipe (Some (Directory names)) other is = absurd cc
is_pipe (Some (Fixed fixed)) other is = absurd cc
is_pipe None other is = absurd cc

-- and of one that was there before
pub stored_pair_told : (ds : List Effect) (k : Kernel) → AllFit ds k → (n : ℕ) (pipe : OpenPipe) → pipe_inode (get k.inodes n) ≡ Some (Pipe pipe.bytes) → ArePair k.descriptions n pipe.reader pipe.writer
    → ArePair (all_done ds k).descriptions n pipe.reader pipe.writer
stored_pair_told ds k fits n pipe is pair = pipes_keep_their_ends_lem.along ds k fits n pipe.reader pipe.writer (is_pipe (get k.inodes n) pipe.bytes is) pair
