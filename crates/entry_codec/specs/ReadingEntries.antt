-- Entries as they are read.
use Rattle.std.specs.Prelude.{ℕ, ◌-◌, ◌==◌, List, length, Result, Ok, Err, if◌then◌else◌}
use Rattle.std.specs.Int.{w32, w64}
use Rattle.ids.specs.declared.call.Op.{Op}
use Rattle.ids.specs.declared.reply.Reply.{Reply}
use Rattle.ids.specs.declared.entry.Entry.{Entry}
use Rattle.entry_codec.specs.declared.fault.Fault.{Fault}
use Rattle.entry_codec.specs.declared.fault.Wrong.TheVariants as wrong
use Rattle.entry_codec.specs.Reading.{Read, ◌>>=◌, fault_at, five, number_at, list_at}
use Rattle.entry_codec.specs.ReadingCalls.{op_at}
use Rattle.entry_codec.specs.ReadingReplies.{reply_at}

abbrev pub nums_at : List ℕ → Read (List ℕ)
nums_at bytes = list_at (number_at w64) bytes

abbrev pub pids_at : List ℕ → Read (List ℕ)
pids_at bytes = list_at (number_at w32) bytes

abbrev pub entry_from : ℕ → Op → Reply → List ℕ → List ℕ → Entry
entry_from pid op reply chosen doomed =
    record { pid = pid; op = op; reply = reply; chosen = chosen; doomed = doomed }

unfoldable pub entry_at : List ℕ → Read Entry
entry_at bytes = five entry_from (number_at w32) op_at reply_at nums_at pids_at bytes

-- the entry at the front, and how many bytes it takes
abbrev pub entry_in : List ℕ → Result (Entry × ℕ) Fault
entry_in bytes = entry_at bytes >>= λ x. Ok (x.0, length bytes - length x.1)

-- a whole record: all of the bytes
unfoldable pub entries_in : List ℕ → Result (List Entry) Fault
entries_in bytes =
    list_at entry_at bytes >>= λ entries.
    (if length entries.1 == 0 then Ok entries.0 else Err (fault_at wrong.Trailing entries.1))
