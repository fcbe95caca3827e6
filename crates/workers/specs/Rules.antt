-- The rules by which a worker does the lines of a process, one after another.
use Rattle.std.specs.Prelude.{ℕ, ◌+◌, nat_lt, List, [], ◌∷◌, Bool, true, false}
use Rattle.std.specs.Prelude.{Option, Some, None, if◌then◌else◌}
use Rattle.ids.specs.declared.call.Op.{Op}
use Rattle.ids.specs.declared.call.Op.TheVariants.{Begin, End, Abort}
use Rattle.ids.specs.declared.reply.Reply.{Reply}
use Rattle.ids.specs.declared.reply.Reply.TheVariants as reply
use Rattle.workers.specs.declared.position.Mode.{Mode}
use Rattle.workers.specs.declared.position.Mode.TheVariants.{AtLine, GivingUp, Gone}

-- Where a worker stands.
pub record Position : Type 0 where
  -- the lines that are left, the next one first
  pub rest : List Op
  -- how often the next line was answered Busy
  pub busy : ℕ
  -- what was left behind the last begin that was answered Begun, and how often the worker went back
  -- there
  pub begun : Option (List Op × ℕ)
  -- whether the process is in a transaction
  pub inside : Bool
  pub mode : Mode

abbrev pub start : List Op → Position
start lines = record { rest = lines; busy = 0; begun = None; inside = false; mode = AtLine }

abbrev pub first : List Op → Option Op
first [] = None
first (line ∷ rest) = Some line

-- the operation that is asked for next, if there is one
abbrev pub asked_in : List Op → Mode → Option Op
asked_in rest AtLine = first rest
asked_in rest GivingUp = Some (Abort true)
asked_in rest Gone = None

abbrev pub asked : Position → Option Op
asked position = asked_in position.rest position.mode

-- what is left behind the first `end` or `abort`
abbrev pub behind_end : List Op → List Op
behind_end [] = []
behind_end (End ∷ rest) = rest
behind_end (Abort no_restart ∷ rest) = rest
behind_end (line ∷ rest) = behind_end rest

-- at the first of these lines
abbrev pub at : Position → List Op → Position
at position rest = record position { rest = rest; busy = 0; mode = AtLine }

-- A Busy line is asked for again, at most a hundred times, and then the worker goes on.
abbrev pub put_off : Position → List Op → Position
put_off position rest =
    if nat_lt position.busy 100 then record position { busy = position.busy + 1 } else at position rest

-- After an abort the worker goes on behind the transaction. The line that was answered may be its
-- end.
abbrev pub skipped : Position → Position
skipped position = at position (behind_end position.rest)

-- After a restart it goes back behind the last begin, at most a hundred times for one begin. The
-- next time it gives the transaction up.
abbrev pub restarted : Position → Option (List Op × ℕ) → Position
restarted position None = skipped position
restarted position (Some begun) =
    if nat_lt begun.1 100
    then record (at position begun.0) { begun = Some (begun.0, begun.1 + 1) }
    else record position { mode = GivingUp }

-- after the reply Begun to this line
abbrev pub begun_by : Position → Op → List Op → Position
begun_by position (Begin flags) rest = record (at position rest) { begun = Some (rest, 0) }
begun_by position line rest = at position rest

-- The process is gone, and the worker stops.
abbrev pub gone : Position → Position
gone position = record position { mode = Gone }

-- after the reply to a line, with the lines behind it
abbrev pub after_line : Position → Op → List Op → Reply → Position
after_line position line rest (reply.Busy cause) = put_off position rest
after_line position line rest (reply.Aborted why true) = restarted position position.begun
after_line position line rest (reply.Aborted why false) = skipped position
after_line position line rest (reply.GivenUp true) = restarted position position.begun
after_line position line rest reply.Begun = begun_by position line rest
after_line position line rest reply.NoProcess = gone position
after_line position line rest r = at position rest

-- after the reply to the abort of a transaction that restarted too often
abbrev pub after_abort : Position → Reply → Position
after_abort position reply.NoProcess = gone position
after_abort position r = skipped position

abbrev pub moved_in : Position → List Op → Mode → Reply → Position
moved_in position (line ∷ rest) AtLine r = after_line position line rest r
moved_in position [] AtLine r = position
moved_in position lines GivingUp r = after_abort position r
moved_in position lines Gone r = position

-- whether the process is in a transaction, by the last reply that says so
abbrev pub inside_after : Bool → Reply → Bool
inside_after inside reply.Begun = true
inside_after inside reply.Committed = false
inside_after inside (reply.GivenUp again) = again
inside_after inside (reply.Aborted why again) = again
inside_after inside r = inside

-- where the worker stands after a reply
unfoldable pub after : Position → Reply → Position
after position r =
    record (moved_in position position.rest position.mode r) { inside = inside_after position.inside r }
