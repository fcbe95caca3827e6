-- How openings change where one description comes or goes, on what openings and holders depend,
-- and how many there are at most.
use Rattle.std.specs.Prelude.{◌≡◌, ◌≢◌, ◌≤◌, ℕ, ◌+◌, ◌*◌, ◌==◌, if◌then◌else◌, Some, None}
use Rattle.std.specs.Ordering.{nat_cmp}
use Rattle.model.specs.FiniteMap.{FinMap, get, remove, len}
use Rattle.model.specs.Limits.{descriptor_limit}
use Rattle.model.specs.State.{Kernel, Inode, Description, Process, Rights}
use Rattle.model.specs.Changes.{set_description, set_offset, at_offset, openings, holders}
use Rattle.call_laws.specs.WellFormed.{WellFormed}
use Rattle.call_laws.specs.Fits.{table_of}
use Rattle.freeing_laws.specs.Counts.{opens}

pub record OpeningsChange : Type 0 where
  -- a description has one opening, of its inode
  pub one : (n : ℕ) (it : Description) → opens n (Some it) ≡ (if it.inode == n then 1 else 0)
  -- a description that comes; one in place of another; and where it opens the same inode,
  -- as where only its offset changes
  pub comes : (k : Kernel) (d : ℕ) (it : Description) → get k.descriptions d ≡ None → (n : ℕ)
      → openings (set_description d it k) n ≡ openings k n + (if it.inode == n then 1 else 0)
  pub replaced : (k : Kernel) (d : ℕ) (it : Description) (n : ℕ)
      → openings (set_description d it k) n + opens n (get k.descriptions d)
      ≡ openings k n + opens n (Some it)
  pub same_inode : (k : Kernel) (d : ℕ) (it old : Description) → get k.descriptions d ≡ Some old
      → it.inode ≡ old.inode → (n : ℕ) → openings (set_description d it k) n ≡ openings k n
  pub moved : (k : Kernel) (d place : ℕ) (it : Description) → get k.descriptions d ≡ Some it
      → (n : ℕ) → openings (set_description d (at_offset place it) k) n ≡ openings k n
  pub offset : (k : Kernel) (d place n : ℕ)
      → openings (set_offset d place (get k.descriptions d) k) n ≡ openings k n
  -- a description that goes
  pub goes : (k : Kernel) (d n : ℕ)
      → openings (record k { descriptions = remove k.descriptions d }) n
      + opens n (get k.descriptions d) ≡ openings k n
  -- Openings depend on descriptions alone, and holders on processes alone.
  pub by_descriptions : (k l : Kernel) → l.descriptions ≡ k.descriptions → (n : ℕ)
      → openings l n ≡ openings k n
  pub by_processes : (k l : Kernel) → l.processes ≡ k.processes → (d : ℕ)
      → holders l d ≡ holders k d
  pub openings_apart : (k : Kernel) (root : ℕ) (inodes : FinMap nat_cmp Inode)
      (rights : FinMap nat_cmp Rights) (processes : FinMap nat_cmp Process) (made n : ℕ)
      → openings (record k {
        root = root;
        inodes = inodes;
        rights = rights;
        processes = processes;
        made = made;
      }) n
      ≡ openings k n
  pub holders_apart : (k : Kernel) (root : ℕ) (inodes : FinMap nat_cmp Inode)
      (rights : FinMap nat_cmp Rights) (descriptions : FinMap nat_cmp Description) (made d : ℕ)
      → holders (record k {
        root = root;
        inodes = inodes;
        rights = rights;
        descriptions = descriptions;
        made = made;
      }) d
      ≡ holders k d
  -- at most
  pub most_openings : (k : Kernel) (n : ℕ) → openings k n ≤ len k.descriptions
  pub most_holders : (k : Kernel) (d : ℕ)
      → ((pid : ℕ) (it : Process) → get k.processes pid ≡ Some it → len it.table ≤ descriptor_limit)
      → holders k d ≤ descriptor_limit * len k.processes
  -- as it is in a well formed state
  pub tables : (k : Kernel) → WellFormed k → (pid : ℕ) → len (table_of k pid) ≤ descriptor_limit
  pub most_held : (k : Kernel) → WellFormed k → (d : ℕ)
      → holders k d ≤ descriptor_limit * len k.processes
  -- none
  pub unheld : (k : Kernel) (d : ℕ) → ((pid f : ℕ) → get (table_of k pid) f ≢ Some d)
      → holders k d ≡ 0
  pub unopened : (k : Kernel) (n : ℕ)
      → ((d : ℕ) (it : Description) → get k.descriptions d ≡ Some it → it.inode ≢ n)
      → openings k n ≡ 0
