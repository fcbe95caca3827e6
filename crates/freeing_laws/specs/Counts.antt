-- By how much each edit changes the counts that code keeps: names of an inode, openings of an inode
-- by descriptions, holders of a description, and ends of a pipe.
use Rattle.std.specs.Prelude.{◌≡◌, ℕ, ◌+◌, ◌==◌, List, [], ◌∷◌, Bool, false, Option, Some, None}
use Rattle.std.specs.Prelude.{if◌then◌else◌}
use Rattle.std.specs.List.{count_by}
use Rattle.model.specs.FiniteMap.{get, remove, values}
use Rattle.model.specs.State.{Kernel, Description, links, ends, is_end}
use Rattle.model.specs.Changes.{Edit, Made, number, Make_directory, Make_file, Make_fixed}
use Rattle.model.specs.Changes.{Name_file, Unname_file, Unname_directory, Move, Open_inode}
use Rattle.model.specs.Changes.{Make_pipe}
use Rattle.model.specs.Changes.{Share_slot, Clear_slot, New_process, End_process, process_of}
use Rattle.model.specs.Changes.{at_offset, applied, holders, openings, inode_replaced, is_held}
use Rattle.model.specs.Changes.{is_reached}
use Rattle.call_laws.specs.WellFormed.{WellFormed}
use Rattle.call_laws.specs.Fits.{Fits}

abbrev pub listed : Option ℕ → List ℕ
listed (Some n) = n ∷ []
listed None = []

-- how often n stands in a list
abbrev pub times : ℕ → List ℕ → ℕ
times n ns = count_by (λ m. m == n) ns

-- the inodes that get a name
abbrev pub named : List ℕ → Edit → List ℕ
named chosen (Make_directory d x i) = number chosen (Made i) ∷ []
named chosen (Make_file d x i) = number chosen (Made i) ∷ []
named chosen (Make_fixed d x fixed i) = number chosen (Made i) ∷ []
named chosen (Name_file d x n) = n ∷ []
named chosen _ = []

-- the inodes that lose a name; what moves has one in place of the other
abbrev pub unnamed : Edit → List ℕ
unnamed (Unname_file d x n) = n ∷ []
unnamed (Unname_directory d x n) = n ∷ []
unnamed (Move d x e y n replaced) = inode_replaced replaced
unnamed _ = []

-- the inodes that a new description opens
abbrev pub opened : List ℕ → Edit → List ℕ
opened chosen (Open_inode i inode mode pid f) = number chosen inode ∷ []
opened chosen (Make_pipe i pid f g) = number chosen (Made i) ∷ number chosen (Made i) ∷ []
opened chosen _ = []

-- the descriptions that descriptors come to name, and those that descriptors name no more
abbrev pub taken : List ℕ → Kernel → Edit → List ℕ
taken chosen k (Open_inode i inode mode pid f) = number chosen (Made i) ∷ []
taken chosen k (Make_pipe i pid f g) =
    number chosen (Made (i + 1)) ∷ number chosen (Made (i + 2)) ∷ []
taken chosen k (Share_slot pid f d pipes) = d ∷ []
taken chosen k (New_process child parent pipes) = values (process_of k parent).table
taken chosen k _ = []

abbrev pub let_go : Kernel → Edit → List ℕ
let_go k (Share_slot pid f d pipes) = listed (get (process_of k pid).table f)
let_go k (Clear_slot pid f pipes) = listed (get (process_of k pid).table f)
let_go k (End_process pid pipes) = values (process_of k pid).table
let_go k _ = []

-- how many of these descriptions are of p and open in that mode
abbrev pub ends_among : Kernel → ℕ → (Description → Bool) → List ℕ → ℕ
ends_among k p mode ds = count_by (λ d. is_end mode p (get k.descriptions d)) ds

-- a mode in which a description is open, whatever its offset: as reading and writing
abbrev pub IsMode : (Description → Bool) → Type 0
IsMode mode = (place : ℕ) (it : Description) → mode (at_offset place it) ≡ mode it

-- What a count was with what it gains is what it is with what it loses.
pub record EditCounts (chosen : List ℕ) (k : Kernel) (e : Edit) : Type 0 where
  pub links : (n : ℕ)
      → links (applied chosen e k) n + times n (unnamed e) ≡ links k n + times n (named chosen e)
  pub openings : (n : ℕ)
      → openings (applied chosen e k) n ≡ openings k n + times n (opened chosen e)
  pub holders : (d : ℕ)
      → holders (applied chosen e k) d + times d (let_go k e)
      ≡ holders k d + times d (taken chosen k e)
  pub ends : (p : ℕ) (mode : Description → Bool) → IsMode mode
      → ends (applied chosen e k) p mode + ends_among k p mode (let_go k e)
      ≡ ends k p mode + ends_among (applied chosen e k) p mode (taken chosen k e)

abbrev pub CountsChange : Type 0
CountsChange = (chosen : List ℕ) (k : Kernel) (e : Edit) → Fits chosen k e → EditCounts chosen k e

-- a description goes if its count of holders is 0
unfoldable pub free_description : ℕ → Kernel → Kernel
free_description d k =
    if is_held k d then k else record k { descriptions = remove k.descriptions d }

-- an inode goes with its rights if its counts of names and of openings are 0, and it is not the root
unfoldable pub free_inode : ℕ → Kernel → Kernel
free_inode n k =
    if is_reached k n then k
    else record k { inodes = remove k.inodes n; rights = remove k.rights n }

-- how many of the openings of n a description has
abbrev pub opens : ℕ → Option Description → ℕ
opens n (Some it) = times n (it.inode ∷ [])
opens n None = 0

-- What freeing changes of the counts: where a description goes, its inode has an opening
-- less; where an inode goes, nothing changes.
pub record FreeingCounts : Type 0 where
  pub description : (k : Kernel) (d : ℕ) → is_held k d ≡ false → (n : ℕ)
      → openings (free_description d k) n + opens n (get k.descriptions d) ≡ openings k n
  pub description_links : (k : Kernel) (d n : ℕ) → links (free_description d k) n ≡ links k n
  pub description_holders : (k : Kernel) (d e : ℕ) → holders (free_description d k) e ≡ holders k e
  pub description_ends : (k : Kernel) (d p : ℕ) (mode : Description → Bool)
      → ends (free_description d k) p mode ≡ ends k p mode
  pub inode_links : (k : Kernel) (n m : ℕ) → WellFormed k → links (free_inode n k) m ≡ links k m
  pub inode_openings : (k : Kernel) (n m : ℕ) → openings (free_inode n k) m ≡ openings k m
  pub inode_holders : (k : Kernel) (n d : ℕ) → holders (free_inode n k) d ≡ holders k d
  pub inode_ends : (k : Kernel) (n p : ℕ) (mode : Description → Bool)
      → ends (free_inode n k) p mode ≡ ends k p mode
