-- When an entry suits: the status of its process, its operation and the kind of its reply are those
-- of one row of the table of replies, whatever its causes, its restart marks and the free places.
use Rattle.std.specs.Prelude.{Bool, true, false, not, ◌&&◌, ◌||◌, if◌then◌else◌, List, [], ◌∷◌}
use Rattle.std.specs.Prelude.{◌≡◌, ⊤}
use Rattle.std.specs.Option.{is_some}
use Rattle.ids.specs.Flags.{is_aborting_unsupported}
use Rattle.model.specs.Entries.{BeginFlags, Op, Do, Begin, End, Abort, Clash, Unsupported, Reply, Why}
use Rattle.model.specs.Entries.{Refuses, Begun, Committed, GivenUp, Aborted, Busy, InTransaction}
use Rattle.model.specs.Entries.{NotInTransaction, NoProcess, Entry, answer_in, is_inside}
use Rattle.model.specs.Entries.{is_unsupported}
use Rattle.model.specs.Moments.{Status, gone, idle, live, doomed, Moment, status, next}

-- the kinds of reply
abbrev pub is_clash : Reply → Bool
is_clash (Aborted (Clash cause) again) = true
is_clash _ = false

abbrev pub is_busy : Reply → Bool
is_busy (Busy cause) = true
is_busy _ = false

abbrev pub is_begun : Reply → Bool
is_begun Begun = true
is_begun _ = false

abbrev pub is_committed : Reply → Bool
is_committed Committed = true
is_committed _ = false

abbrev pub is_given_up : Reply → Bool
is_given_up (GivenUp again) = true
is_given_up _ = false

abbrev pub is_in_transaction : Reply → Bool
is_in_transaction InTransaction = true
is_in_transaction _ = false

abbrev pub is_not_in_transaction : Reply → Bool
is_not_in_transaction NotInTransaction = true
is_not_in_transaction _ = false

abbrev pub is_no_process : Reply → Bool
is_no_process NoProcess = true
is_no_process _ = false

-- an answer, or a refusal that is not for being in a transaction
abbrev pub is_executed : Reply → Bool
is_executed reply = is_some (answer_in reply)

-- why a transaction was undone: for a call that none may make
abbrev pub is_for_unsupported : Why → Bool
is_for_unsupported Unsupported = true
is_for_unsupported (Clash cause) = false

-- the reply of a fork and an exit in a transaction: refused, or with this flag aborted
abbrev pub is_refused_inside : BeginFlags → Reply → Bool
is_refused_inside flags (Aborted why again) =
    is_for_unsupported why && is_aborting_unsupported flags
is_refused_inside flags (Refuses e) = not (is_aborting_unsupported flags) && is_unsupported e
is_refused_inside flags _ = false

-- outside a transaction
abbrev pub suits_idle : Op → Reply → Bool
suits_idle (Do call) reply = is_busy reply || is_executed reply
suits_idle (Begin flags) reply = is_begun reply
suits_idle End reply = is_not_in_transaction reply
suits_idle (Abort no_restart) reply = is_not_in_transaction reply

-- inside a live one with these flags
abbrev pub suits_live : BeginFlags → Op → Reply → Bool
suits_live flags (Do call) reply =
    if is_inside call then is_clash reply || is_executed reply else is_refused_inside flags reply
suits_live flags (Begin new) reply = is_in_transaction reply
suits_live flags End reply = is_committed reply
suits_live flags (Abort no_restart) reply = is_given_up reply

-- the kinds of reply for each status and operation
abbrev pub suits : Status → Op → Reply → Bool
suits gone op reply = is_no_process reply
suits idle op reply = suits_idle op reply
suits (live flags age calls) op reply = suits_live flags op reply
suits (doomed cause flags age) op reply = is_clash reply

-- From this moment on each entry suits, each after those before it.
abbrev pub AllSuit : Moment → List Entry → Type 0
AllSuit m [] = ⊤
AllSuit m (e ∷ es) = (suits (status m e.pid) e.op e.reply ≡ true) × AllSuit (next m e) es
