-- A transcript, line by line.
use Rattle.std.specs.Prelude.{ℕ, ◌+◌, List, [], ◌∷◌, ◌++◌, codes, decimal, flat_map}
use Rattle.ids.specs.declared.entry.Entry.{Entry}
use Rattle.transcript.specs.Operation.{op_text}
use Rattle.transcript.specs.Reply.{reply_text}

-- a further process behind a comma
abbrev pub more_text : ℕ → List ℕ
more_text pid = codes ",P" ++ decimal pid

-- the processes that were doomed, if there are any
abbrev pub dooms_text : List ℕ → List ℕ
dooms_text [] = []
dooms_text (pid ∷ pids) = codes " dooms P" ++ decimal pid ++ flat_map more_text pids

-- the line of the entry at this position
unfoldable pub line_of : ℕ → Entry → List ℕ
line_of position entry =
    decimal position ++ codes " P" ++ decimal entry.pid ++ codes " " ++ op_text entry.op
    ++ codes " -> " ++ reply_text entry.reply ++ dooms_text entry.doomed ++ codes "\n"

-- the lines of entries, of which the first has this position
abbrev pub lines_from : ℕ → List Entry → List ℕ
lines_from position [] = []
lines_from position (entry ∷ entries) = line_of position entry ++ lines_from (position + 1) entries

-- the lines of a whole history: its entries are numbered from 1
abbrev pub transcript : List Entry → List ℕ
transcript entries = lines_from 1 entries
