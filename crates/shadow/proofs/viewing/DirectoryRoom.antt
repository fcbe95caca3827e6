-- Each directory of a state with changes on top can have room promised.
use Rattle.std.proofs.Common.{◌≡◌, ℕ, ◌<◌, ◌&&◌, List, Bool, true, false, Option, Some, None, refl, sym, ap, ◌∙◌, arith}
use Rattle.std.specs.Ordering.{nat_cmp}
use Rattle.std.specs.Option.{is_some}
use Rattle.model.specs.FiniteMap.{FinMap, get}
use Rattle.model.specs.State.{A_directory, Inode, kind, mapped}
use Rattle.model.specs.Effects.{Effect, all_done}
use Rattle.freeing_laws.specs.Sweep.{AllFit}
use Rattle.notes.specs.declared.change.Contents.{Contents}
use Rattle.notes.specs.declared.change.Contents.TheVariants.{Same, Names, Bytes, Pipe, Fixed}
use Rattle.notes.specs.declared.change.Made.{Made}
use Rattle.notes.specs.declared.change.Made.TheVariants.{Directory, File, Pipe as New_pipe, Fixed as New_fixed}
use Rattle.shadow.specs.Agrees.{Agrees, IsOver}
use Rattle.shadow.specs.Claims.{Covers, IsDirectory, New_directory, as_count, coming_directory, is_directory_made, room_of}
use Rattle.shadow.specs.Committed.{Committed, Reserve}
use Rattle.shadow.specs.Looks.{DirectoriesAreKept}
use Rattle.notes.specs.Patches.{Patches, form_of, net_at, patched}
use Rattle.shadow.proofs.shared.FixedKinds.{no_directory}

none_coming : (o : Option Reserve) → room_of o ≡ None → coming_directory o ≡ 0
none_coming None none = refl
none_coming (Some r) none = ap (λ p. as_count (r.coming && is_some p)) none ∙ by_test r.coming
  where
    by_test : (b : Bool) → as_count (b && false) ≡ 0
    by_test true = refl
    by_test false = refl

-- a number of a directory to come
pub comes : (reserves : FinMap nat_cmp Reserve) (d : ℕ) → 0 < coming_directory (get reserves d) → IsDirectory reserves d
comes reserves d some none = (let zero : coming_directory (get reserves d) ≡ 0 = none_coming (get reserves d) none in omega arith)

module _ (reserves : FinMap nat_cmp Reserve) (d : ℕ) (o : Option Inode) where
  by_made : (made : Option Made) (contents : Contents) → IsOver (mapped kind o) made (form_of contents) → (made ≡ Some Directory → 0 < coming_directory (get reserves d))
      → (mapped kind o ≡ Some A_directory → IsDirectory reserves d) → mapped kind (patched contents o) ≡ Some A_directory → IsDirectory reserves d
  by_made (Some Directory) contents over new old is = comes reserves d (new refl)
  by_made (Some File) Same over new old is = absurd cc
  by_made (Some File) (Names fresh notes) over new old is = absurd cc
  by_made (Some File) (Bytes fresh bytes) over new old is = absurd cc
  by_made (Some File) (Pipe ends changes) over new old is = absurd cc
  by_made (Some File) (Fixed fixed) over new old is = absurd cc
  by_made (Some New_pipe) Same over new old is = absurd cc
  by_made (Some New_pipe) (Names fresh notes) over new old is = absurd cc
  by_made (Some New_pipe) (Bytes fresh bytes) over new old is = absurd cc
  by_made (Some New_pipe) (Pipe ends changes) over new old is = absurd cc
  by_made (Some New_pipe) (Fixed fixed) over new old is = absurd cc
  by_made (Some New_fixed) Same over new old is = absurd cc
  by_made (Some New_fixed) (Names fresh notes) over new old is = absurd cc
  by_made (Some New_fixed) (Bytes fresh bytes) over new old is = absurd cc
  by_made (Some New_fixed) (Pipe ends changes) over new old is = absurd cc
  by_made (Some New_fixed) (Fixed fixed) over new old is = no_directory fixed is
  by_made None Same over new old is = old is
  by_made None (Names fresh notes) over new old is = old over.1
  by_made None (Bytes fresh bytes) over new old is = absurd cc
  by_made None (Pipe ends changes) over new old is = absurd cc
  by_made None (Fixed fixed) over new old is = absurd over

pub kept_over : (ds : List Effect) (p : Patches) (s : Committed) → Agrees ds p → AllFit ds s.state → Covers s ds → DirectoriesAreKept s → DirectoriesAreKept (record s { state = all_done ds s.state })
kept_over ds p s a fits covers kept d is =
    by_made s.reserves d (get s.state.inodes d) (net_at p.inodes d).made (net_at p.inodes d).contents (a.kinds s.state d fits)
    (λ made.
    let one : as_count (is_directory_made (net_at p.inodes d).made) ≡ 1 = ap (λ m. as_count (is_directory_made m)) made in
    let most = covers (New_directory d) in
    let claims = a.claims (New_directory d) in
    omega (arith, most, claims, one))
    (kept d) (sym (ap (mapped kind) (a.inodes s.state d fits)) ∙ is)
