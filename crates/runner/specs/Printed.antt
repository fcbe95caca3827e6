-- What is printed of a history.
use Rattle.std.specs.Prelude.{ℕ, suc, List, sum}
use Rattle.history.specs.Log.{Log, kept}
use Rattle.transcript.specs.Line.{lines_from}

-- the lines of the entries that are kept, numbered from the first entry ever
abbrev pub transcript_of : Log → List ℕ
transcript_of log = lines_from (suc (sum log.forgotten)) (kept log)
