-- What a port to a turnstile has done.
use Rattle.std.specs.Prelude.{ℕ, List, map}
use Rattle.history.specs.Log.{Log}
use Rattle.ids.specs.declared.call.Op.{Op}
use Rattle.ids.specs.declared.entry.Entry.{Entry}
use Rattle.ids.specs.declared.reply.Reply.{Reply}
use Rattle.turnstile.specs.Histories.{own}
use Rattle.turnstile.specs.Passes.{PassView}

-- the operation and the reply of an entry
abbrev pub replied : Entry → Op × Reply
replied e = (e.op, e.reply)

-- the operations of a process with their replies, as a history has them
abbrev pub work_in : Log → ℕ → List (Op × Reply)
work_in log pid = map replied (own pid log)

-- those that the pass knows, which are all that it has done
abbrev pub done_by : PassView → List (Op × Reply)
done_by p = work_in p.seen p.pid
