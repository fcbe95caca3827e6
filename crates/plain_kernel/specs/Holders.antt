-- How many descriptors give what is sought: a description, or one that is open on a pipe.
use Rattle.std.specs.Prelude.{◌≡◌, ℕ, ◌==◌, Bool, true, false, cond, Option, None, Some}
use Rattle.std.specs.List.{count_by, sum_by}
use Rattle.std.specs.Ordering.{nat_cmp}
use Rattle.model.specs.FiniteMap.{FinMap, get, values}
use Rattle.model.specs.State.{Description, Process, is_end}
use Rattle.plain_kernel.specs.Counts.{count_at, is_open}
use Rattle.plain_kernel.specs.declared.holders.Holders.{Holders}

-- this description, or any that is open on this inode to write, or to read
pub data Sought : Type 0 where
  One : ℕ → Sought
  End : Bool → ℕ → Sought

abbrev pub is_sought : FinMap nat_cmp Description → Sought → ℕ → Bool
is_sought descriptions (One d) e = e == d
is_sought descriptions (End writing p) e = is_end (is_open writing) p (get descriptions e)

-- what is counted of it
abbrev pub held_at : Holders → Sought → ℕ
held_at holders (One d) = count_at holders.each d
held_at holders (End true p) = count_at holders.writing p
held_at holders (End false p) = count_at holders.reading p

-- how many descriptors of a process pass a test
abbrev pub passing : (ℕ → Bool) → Process → ℕ
passing test process = count_by test (values process.table)

-- and how many of all processes
abbrev pub passing_of_all : (ℕ → Bool) → FinMap nat_cmp Process → ℕ
passing_of_all test processes = sum_by (passing test) (values processes)

-- how many of one descriptor, which may give nothing
abbrev pub passing_once : (ℕ → Bool) → Option ℕ → ℕ
passing_once test None = 0
passing_once test (Some d) = cond (test d) 1 0

-- how many so many descriptors count at the ends, if they give this description
abbrev pub ends_by : ℕ → Option Description → Sought → ℕ
ends_by count description (One d) = 0
ends_by count description (End writing p) = cond (is_end (is_open writing) p description) count 0

-- the counts are those of the descriptors
abbrev pub AreHoldersOf : FinMap nat_cmp Description → FinMap nat_cmp Process → Holders → Type 0
AreHoldersOf descriptions processes holders = (s : Sought)
    → held_at holders s ≡ passing_of_all (is_sought descriptions s) processes
