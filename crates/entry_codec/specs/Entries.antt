-- The bytes of an entry, field by field, and those of a record, the entries that are kept together: how
-- many there are, and each.
use Rattle.std.specs.Prelude.{ℕ, ◌<◌, ◌^◌, List, ◌++◌}
use Rattle.ids.specs.declared.entry.Entry.{Entry}
use Rattle.entry_codec.specs.Parts.{u32_bytes, u64_bytes, list_bytes, IsList}
use Rattle.entry_codec.specs.Calls.{op_bytes, IsOp}
use Rattle.entry_codec.specs.Replies.{reply_bytes, IsReply}

-- the numbers of objects that were made, and the processes that were doomed
abbrev pub nums_bytes : List ℕ → List ℕ
nums_bytes nums = list_bytes u64_bytes nums

abbrev pub pids_bytes : List ℕ → List ℕ
pids_bytes pids = list_bytes u32_bytes pids

unfoldable pub entry_bytes : Entry → List ℕ
entry_bytes entry =
    u32_bytes entry.pid ++ op_bytes entry.op ++ reply_bytes entry.reply
    ++ nums_bytes entry.chosen ++ pids_bytes entry.doomed

-- Each number of the entry is in the range of its type, as it is of each entry of a program.
pub record IsEntry (entry : Entry) : Type 0 where
  pub pid : entry.pid < 2 ^ 32
  pub op : IsOp entry.op
  pub reply : IsReply entry.reply
  pub chosen : IsList (λ n. n < 2 ^ 64) entry.chosen
  pub doomed : IsList (λ n. n < 2 ^ 32) entry.doomed

abbrev pub entries_bytes : List Entry → List ℕ
entries_bytes entries = list_bytes entry_bytes entries

abbrev pub AreEntries : List Entry → Type 0
AreEntries entries = IsList IsEntry entries
