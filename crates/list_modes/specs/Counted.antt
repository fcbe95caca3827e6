-- How the holder table is kept: the marks by processes and directories, and for each directory how
-- many processes have which.
use Rattle.std.specs.Prelude.{◌≡◌, ℕ, ◌+◌, ◌-◌, ◌≤◌, ◌<◌, ◌^◌, Bool, ◌&&◌, if◌then◌else◌, unwrap_or}
use Rattle.std.specs.Ordering.{nat_cmp}
use Rattle.std.specs.BTreeMap as tree
use Rattle.model.specs.Moments.{count_below}
use Rattle.model.specs.Modes.{ListMode, NoTx, Read, Write, Exclusive}
use Rattle.list_modes.specs.Holding.{Held, Table, nothing, held_of}
pub use Rattle.list_modes.specs.declared.table.Counts.{Counts}

abbrev pub no_counts : Counts
no_counts = record { readers = 0; writers = 0; both = 0 }

abbrev pub counts_in : tree.BTreeMap ℕ Counts → ℕ → Counts
counts_in counts d = unwrap_or (tree.get nat_cmp counts d) no_counts

-- above each process's number
unfoldable pub pids : ℕ
pids = 2 ^ 32

-- of all processes, how many read the names, write an entry, and do both
abbrev pub tally : (ℕ → Held) → Counts
tally held = record {
  readers = count_below (λ p. (held p).names_read) pids;
  writers = count_below (λ p. (held p).entry_written) pids;
  both = count_below (λ p. (held p).names_read && (held p).entry_written) pids;
}

abbrev pub one : Bool → ℕ
one b = if b then 1 else 0

-- a count, when one process that was counted or not is counted or not
abbrev pub recounted : ℕ → Bool → Bool → ℕ
recounted count before after = (count + one after) - one before

-- the counts, when one process holds another thing
abbrev pub all_recounted : Counts → Held → Held → Counts
all_recounted counts before after = record {
  readers = recounted counts.readers before.names_read after.names_read;
  writers = recounted counts.writers before.entry_written after.entry_written;
  both = recounted counts.both
      (before.names_read && before.entry_written) (after.names_read && after.entry_written);
}

-- the list mode, by whether any process does both, and whether any writes and any reads
abbrev pub mode_by : Bool → Bool → Bool → ListMode
mode_by both writers readers =
    if both then Exclusive else if writers then Write else if readers then Read else NoTx

-- a process that is counted is among them, and there is room to count one more
abbrev pub HasRoom : ℕ → Bool → Type 0
HasRoom count before = (one before ≤ count) × (count < 2 ^ 33)

pub record HaveRoom (counts : Counts) (before : Held) : Type 0 where
  pub readers : HasRoom counts.readers before.names_read
  pub writers : HasRoom counts.writers before.entry_written
  pub both : HasRoom counts.both (before.names_read && before.entry_written)

-- the counts are those of the marks
pub record IsCounted (table : Table) (counts : tree.BTreeMap ℕ Counts) : Type 0 where
  pub each : (d : ℕ) → counts_in counts d ≡ tally (λ p. held_of table p d)
  pub beyond : (p d : ℕ) → pids ≤ p → held_of table p d ≡ nothing
