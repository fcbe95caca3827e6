-- What a transaction keeps of its changes agrees with them.
use Rattle.std.specs.Prelude.{◌≡◌, ◌≢◌, ◌↔◌, ℕ, ◌≤◌, Bool, true, false, List, []}
use Rattle.std.specs.Prelude.{Contains, Option, Some, None, is_some, ⊤}
use Rattle.std.specs.List.{flat_map}
use Rattle.model.specs.FiniteMap.{get}
use Rattle.model.specs.State.{Kind, A_file, A_directory, A_pipe, Kernel, kind_of}
use Rattle.model.specs.Moments.{is_alive}
use Rattle.model.specs.Effects.{Effect, all_done}
use Rattle.call_laws.specs.WellFormed.{WellFormed}
use Rattle.freeing_laws.specs.Counts.{times}
use Rattle.freeing_laws.specs.Left.{named_along, unnamed_along}
use Rattle.freeing_laws.specs.Pipes.{ArePair}
use Rattle.freeing_laws.specs.Sweep.{AllFit}
use Rattle.notes.specs.declared.change.Made.{Made}
use Rattle.notes.specs.declared.change.Made.TheVariants.{Directory, File, Pipe, Fixed}
use Rattle.notes.specs.declared.opening.Opening.{Opening}
use Rattle.notes.specs.declared.opening.Opening.TheVariants.{Kept, New, Moved}
use Rattle.shadow.specs.Claims.{Claim, claimed, claim_in}
use Rattle.notes.specs.Patches.{AllReach, Form, no_change, of_names, of_bytes, of_pipe, of_fixed}
use Rattle.notes.specs.Patches.{Patches, new_ends}
use Rattle.notes.specs.Patches.{added_by, form_of, kept_at, net_at, opening_at, patched, reopened}
use Rattle.notes.specs.Patches.{numbers_in, reslotted, rights_over, slots_in}
use Rattle.notes.specs.Steps.{blocks_by}

-- The kind of what stands below changes: an object that is new was made so, and any other is of
-- that kind already.
abbrev pub IsOver : Option Kind → Option Made → Form → Type 0
IsOver kind (Some Directory) form = form ≡ of_names true
IsOver kind (Some File) form = form ≡ of_bytes true
IsOver kind (Some Pipe) form = form ≡ of_pipe true
IsOver kind (Some Fixed) form = form ≡ of_fixed
IsOver kind None no_change = ⊤
IsOver kind None (of_names fresh) = (fresh ≡ false) × (kind ≡ Some A_directory)
IsOver kind None (of_bytes fresh) = (fresh ≡ false) × (kind ≡ Some A_file)
IsOver kind None (of_pipe fresh) = (fresh ≡ false) × (kind ≡ Some A_pipe)
IsOver kind None of_fixed = ⊥

abbrev pub IsOverDescription : Opening → Bool → Type 0
IsOverDescription (Moved place) there = there ≡ true
IsOverDescription Kept there = ⊤
IsOverDescription (New it) there = ⊤

-- the blocks of a file into which writes put bytes
abbrev pub blocks_written : ℕ → List Effect → List ℕ
blocks_written n ds = flat_map (λ d. flat_map (blocks_by n) d.edits) ds

pub record Agrees (ds : List Effect) (p : Patches) : Type 0 where
  -- what stands at each number after the changes, whatever the state is below them; for an inode it
  -- is a state that they fit
  pub root : (k : Kernel) → (all_done ds k).root ≡ k.root
  pub count : (k : Kernel) → (all_done ds k).made ≡ k.made
  pub bounds : (k : Kernel) → (all_done ds k).bounds ≡ k.bounds
  pub inodes : (k : Kernel) (n : ℕ) → AllFit ds k
      → get (all_done ds k).inodes n ≡ patched (net_at p.inodes n).contents (get k.inodes n)
  pub rights : (k : Kernel) (n : ℕ)
      → get (all_done ds k).rights n ≡ rights_over (kept_at p.rights n) (get k.rights n)
  pub descriptions : (k : Kernel) (d : ℕ)
      → get (all_done ds k).descriptions d ≡ reopened (opening_at p.openings d) (get k.descriptions d)
  pub processes : (k : Kernel) (pid : ℕ)
      → get (all_done ds k).processes pid ≡ reslotted (kept_at p.slots pid) (get k.processes pid)
  -- how many names were given and taken, and from what
  pub named : (n : ℕ) → times n (named_along ds) ≡ (net_at p.inodes n).named
  pub unnamed : (n : ℕ) → times n p.unnamed_inodes ≡ (net_at p.inodes n).unnamed
  pub unnamed_inodes : unnamed_along ds ≡ p.unnamed_inodes
  -- what is claimed, and that it is enough for the names that come
  pub claims : (c : Claim) → claimed c ds ≡ claim_in p c
  pub added : (n : ℕ) → added_by (net_at p.inodes n).contents ≤ (net_at p.inodes n).promised
  -- no room is promised in what has not changed
  pub still : (n : ℕ) → form_of (net_at p.inodes n).contents ≡ no_change
      → (net_at p.inodes n).promised ≡ 0
  -- where the changes fit: what stands below them is of their kind
  pub kinds : (k : Kernel) (n : ℕ) → AllFit ds k
      → IsOver (kind_of k n) (net_at p.inodes n).made (form_of (net_at p.inodes n).contents)
  pub written : (k : Kernel) (n b : ℕ) → AllFit ds k
      → Contains (numbers_in (net_at p.inodes n).contents) b ↔ Contains (blocks_written n ds) b
  pub moved : (k : Kernel) (d : ℕ) → AllFit ds k
      → IsOverDescription (opening_at p.openings d) (is_some (get k.descriptions d))
  -- all that is taken from a pipe was there, and of a new pipe these two descriptions are
  pub reach : (k : Kernel) (n : ℕ) → AllFit ds k
      → AllReach (net_at p.inodes n).contents (get k.inodes n)
  pub pipes : (k : Kernel) (n : ℕ) (ends : ℕ × ℕ)
      → new_ends (net_at p.inodes n).contents ≡ Some ends → WellFormed k → AllFit ds k
      → ArePair (all_done ds k).descriptions n ends.0 ends.1
  pub alive : (k : Kernel) (pid : ℕ) → AllFit ds k → slots_in (kept_at p.slots pid) ≢ []
      → is_alive k pid ≡ true
