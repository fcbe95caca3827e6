-- The inodes and the descriptions of a store, as a plain kernel has them: without objects to come
-- and removed ones, without promised room, and without counts.
use Rattle.std.specs.Prelude.{ℕ, List, [], ◌∷◌, Option, Some, None}
use Rattle.std.specs.Ordering.{nat_cmp}
use Rattle.model.specs.FiniteMap.{FinMap, entries, get, insert, remove, from_entries}
use Rattle.model.specs.State.{Inode, Directory, File, Pipe, Fixed, Description, name_cmp}
use Rattle.model.specs.Changes.{at_offset}
use Rattle.store.specs.Numbers.{Numbers}
use Rattle.store.specs.declared.Place.{Place}
use Rattle.store.specs.declared.Stage.{Stage}
use Rattle.store.specs.declared.Stage.TheVariants.{Coming, Held, Removed}
use Rattle.store.specs.declared.Object.{Object}
use Rattle.store.specs.declared.Object.TheVariants.{Directory as Kept_directory}
use Rattle.store.specs.declared.Object.TheVariants.{File as Kept_file, Pipe as Kept_pipe}
use Rattle.store.specs.declared.Object.TheVariants.{Fixed as Kept_fixed}
use Rattle.store.specs.declared.Object.TheVariants.{Description as Kept_description}

abbrev pub inode_of : Object → Option Inode
inode_of (Kept_directory listing) = Some (Directory listing.names)
inode_of (Kept_file file) = Some (File file.bytes.bytes)
inode_of (Kept_pipe pipe) = Some (Pipe pipe.bytes)
inode_of (Kept_fixed fixed) = Some (Fixed fixed)
inode_of _ = None

abbrev pub description_of : Object → Option Description
description_of (Kept_description opened) = Some opened.description
description_of _ = None

-- an object is shown where it is neither to come nor removed
abbrev pub shown_at : {X : Type 0} → Stage → Option X → Option X
shown_at Held x = x
shown_at Coming x = None
shown_at Removed x = None

abbrev pub inode_in : Place → Option Inode
inode_in place = shown_at place.stage (inode_of place.object)

abbrev pub description_in : Place → Option Description
description_in place = shown_at place.stage (description_of place.object)

abbrev pub in_front : {Y : Type 0} → ℕ → Option Y → List (ℕ × Y) → List (ℕ × Y)
in_front n (Some y) es = (n, y) ∷ es
in_front n None es = es

-- what f makes of the entries, where it makes something
abbrev pub chosen_entries : {X Y : Type 0} → (X → Option Y) → List (ℕ × X) → List (ℕ × Y)
chosen_entries f [] = []
chosen_entries f (e ∷ es) = in_front e.0 (f e.1) (chosen_entries f es)

unfoldable pub chosen : {X Y : Type 0} → (X → Option Y) → FinMap nat_cmp X → FinMap nat_cmp Y
chosen f m = from_entries (chosen_entries f (entries m))

-- the inodes under their numbers
abbrev pub inodes : Numbers → FinMap nat_cmp Inode
inodes s = chosen inode_in s.places

-- the open file descriptions under their numbers
abbrev pub descriptions : Numbers → FinMap nat_cmp Description
descriptions s = chosen description_in s.places

-- the number has this value, or none
abbrev pub with_value : {X : Type 0} → FinMap nat_cmp X → ℕ → Option X → FinMap nat_cmp X
with_value m n (Some x) = insert m n x
with_value m n None = remove m n

-- the number has this inode, or none
abbrev pub with_inode : FinMap nat_cmp Inode → ℕ → Option Inode → FinMap nat_cmp Inode
with_inode = with_value

-- a change of the names of the directory that an inode is, if it is one
abbrev pub with_names_by : (FinMap name_cmp ℕ → FinMap name_cmp ℕ) → Option Inode
    → FinMap nat_cmp Inode → ℕ → FinMap nat_cmp Inode
with_names_by f (Some (Directory names)) m n = insert m n (Directory (f names))
with_names_by f _ m n = m

-- the inodes, with the names of the directory of this number changed by f, where there is one
abbrev pub with_names : (FinMap name_cmp ℕ → FinMap name_cmp ℕ) → FinMap nat_cmp Inode → ℕ
    → FinMap nat_cmp Inode
with_names f m n = with_names_by f (get m n) m n

-- the description of a number with another offset, where there is one
abbrev pub with_offset_by : ℕ → Option Description → FinMap nat_cmp Description → ℕ
    → FinMap nat_cmp Description
with_offset_by offset (Some it) m d = insert m d (at_offset offset it)
with_offset_by offset None m d = m

abbrev pub with_offset : ℕ → FinMap nat_cmp Description → ℕ → FinMap nat_cmp Description
with_offset offset m d = with_offset_by offset (get m d) m d

-- an inode, where it is a pipe, and where it is a file
abbrev pub pipe_inode : Option Inode → Option Inode
pipe_inode (Some (Pipe bytes)) = Some (Pipe bytes)
pipe_inode _ = None

abbrev pub file_inode : Option Inode → Option Inode
file_inode (Some (File bytes)) = Some (File bytes)
file_inode _ = None
