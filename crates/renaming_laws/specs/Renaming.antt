-- Other numbers for objects: the renaming, and what it makes of a state.
use Rattle.std.specs.Prelude.{◌≡◌, ℕ, ◌==◌, if◌then◌else◌, map}
use Rattle.std.specs.declared.cmp.Ordering.{Ordering}
use Rattle.model.specs.FiniteMap.{FinMap, entries, from_entries}
use Rattle.model.specs.State.{Kernel, Inode, File, Directory, Pipe, Fixed, Description, Process}

-- A renaming is its own inverse, so that no two numbers get one.
pub record IsRenaming (f : ℕ → ℕ) : Type 0 where
  pub again : (n : ℕ) → f (f n) ≡ n

-- each of two numbers becomes the other
abbrev pub swap : ℕ → ℕ → ℕ → ℕ
swap a b n = if n == a then b else if n == b then a else n

-- a map with other keys and other values
unfoldable pub renamed_map : {K X : Type 0} {R : K → K → Ordering} → (K → K) → (X → X)
    → FinMap R X → FinMap R X
renamed_map f g m = from_entries (map (λ e. (f e.0, g e.1)) (entries m))

-- a map with other values alone
abbrev pub with_values : {K X : Type 0} {R : K → K → Ordering} → (X → X) → FinMap R X → FinMap R X
with_values g m = renamed_map (λ k. k) g m

abbrev pub renamed_inode : (ℕ → ℕ) → Inode → Inode
renamed_inode f (File bytes) = File bytes
renamed_inode f (Directory names) = Directory (with_values f names)
renamed_inode f (Pipe bytes) = Pipe bytes
renamed_inode f (Fixed fixed) = Fixed fixed

abbrev pub renamed_description : (ℕ → ℕ) → Description → Description
renamed_description f d = record d { inode = f d.inode }

abbrev pub renamed_process : (ℕ → ℕ) → Process → Process
renamed_process f process = record process { table = with_values f process.table }

-- Inodes and descriptions get other numbers, wherever the state gives them, and an inode has its
-- rights under its other number. The numbers of processes and of descriptors stay, as do those of
-- users and groups.
abbrev pub renamed : (ℕ → ℕ) → Kernel → Kernel
renamed f k = record {
  root = f k.root;
  inodes = renamed_map f (renamed_inode f) k.inodes;
  rights = renamed_map f (λ set. set) k.rights;
  descriptions = renamed_map f (renamed_description f) k.descriptions;
  processes = with_values (renamed_process f) k.processes;
  made = k.made;
  bounds = k.bounds;
}
