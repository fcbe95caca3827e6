-- Operations, replies and entries, and what of them is executed.
use Rattle.std.specs.Prelude.{ℕ, List, Bool, true, false, Option, Some, None, Result, Ok, Err}
use Rattle.std.specs.Prelude.{if◌then◌else◌}
use Rattle.model.specs.Plan.{Errno, ENOTSUP}
use Rattle.model.specs.Calls.{Call, Fork, Exit, Answer}
pub use Rattle.ids.specs.declared.flags.BeginFlags.{BeginFlags}
pub use Rattle.ids.specs.declared.call.Op.{Op}
pub use Rattle.ids.specs.declared.call.Op.TheVariants.{Call as Do, Begin, End, Abort}
pub use Rattle.ids.specs.declared.aspect.Cause.{Cause}
pub use Rattle.ids.specs.declared.aspect.Why.{Why}
pub use Rattle.ids.specs.declared.aspect.Why.TheVariants.{Clash, Unsupported}
pub use Rattle.ids.specs.declared.reply.Reply.{Reply}
pub use Rattle.ids.specs.declared.reply.Reply.TheVariants.{Answer as Answers, Errno as Refuses}
pub use Rattle.ids.specs.declared.reply.Reply.TheVariants.{Begun, Committed, GivenUp, Aborted, Busy}
pub use Rattle.ids.specs.declared.reply.Reply.TheVariants.{InTransaction, NotInTransaction}
pub use Rattle.ids.specs.declared.reply.Reply.TheVariants.{HistoryFull, NoMemory, NoProcess}
pub use Rattle.ids.specs.declared.entry.Entry.{Entry}

-- one executed call
pub record Executed : Type 0 where
  pub call : Call
  pub answer : Result Answer Errno
  pub chosen : List ℕ

abbrev pub is_unsupported : Errno → Bool
is_unsupported ENOTSUP = true
is_unsupported _ = false

-- the answer of an executed call, if a reply is one
abbrev pub answer_in : Reply → Option (Result Answer Errno)
answer_in (Answers a) = Some (Ok a)
answer_in (Refuses e) = if is_unsupported e then None else Some (Err e)
answer_in Begun = None
answer_in Committed = None
answer_in (GivenUp again) = None
answer_in (Aborted why again) = None
answer_in (Busy cause) = None
answer_in InTransaction = None
answer_in NotInTransaction = None
answer_in HistoryFull = None
answer_in NoMemory = None
answer_in NoProcess = None

-- fork and exit are not supported inside a transaction
abbrev pub is_inside : Call → Bool
is_inside Fork = false
is_inside Exit = false
is_inside _ = true
