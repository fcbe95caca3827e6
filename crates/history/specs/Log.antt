-- What a contract sees of a history.
use Rattle.std.specs.Prelude.{ℕ, List, [], ◌∷◌, ◌++◌, length, drop, sum}
use Rattle.ids.specs.declared.entry.Entry.{Entry}
use Rattle.ids.specs.declared.limits.Bounds.{Bounds}

-- All entries ever made, in order; the priorities that the processes began with; how many entries
-- may be kept; how many were forgotten, each time, the first first; and the kernel's bounds. The
-- forgotten are the first of the entries, and no memory holds them.
pub record Log : Type 0 where
  pub entries : List Entry
  pub priorities : List ℕ
  pub limit : ℕ
  pub forgotten : List ℕ
  pub bounds : Bounds

-- the entries that are in memory: those behind the forgotten
abbrev pub kept : Log → List Entry
kept log = drop (sum log.forgotten) log.entries

-- all that were kept are forgotten
abbrev pub all_forgotten : Log → Log
all_forgotten log = record log { forgotten = log.forgotten ++ length (kept log) ∷ [] }
