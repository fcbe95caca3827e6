-- What the checker keeps of a process: nothing while it is idle, else its transaction's flags and,
-- while it lives, the positions of its calls.
use Rattle.std.specs.Prelude.{◌≡◌, ℕ, List, [], ◌∷◌, ◌++◌, Bool, true, false, Option, Some, None, ⊤}
use Rattle.std.specs.Prelude.{drop, if◌then◌else◌, ◌==◌}
use Rattle.model.specs.Entries.{BeginFlags, Op, Do, Begin, End, Abort, Reply, Answers, Refuses}
use Rattle.model.specs.Entries.{Begun, Committed, GivenUp, Aborted, Busy, InTransaction, NotInTransaction}
use Rattle.model.specs.Entries.{HistoryFull, NoMemory, NoProcess, Entry, Executed, answer_in}
use Rattle.model.specs.Moments.{Status, idle, live, doomed, plain_calls, is_in}
use Rattle.model.specs.Suits.{is_clash, is_no_process, suits_idle, suits_live}
use Rattle.replay.specs.declared.transaction.Transaction.{Transaction}
use Rattle.replay.specs.declared.transaction.Transaction.TheVariants.{Live, Doomed}

-- the call of an entry, if it was executed
abbrev pub call_in : Op → Reply → List ℕ → List Executed
call_in (Do call) reply chosen = plain_calls call (answer_in reply) chosen
call_in (Begin flags) reply chosen = []
call_in End reply chosen = []
call_in (Abort no_restart) reply chosen = []

abbrev pub call_of : Entry → List Executed
call_of e = call_in e.op e.reply e.chosen

abbrev pub call_first : List Entry → List Executed
call_first [] = []
call_first (e ∷ es) = call_of e

-- the executed calls at these positions
abbrev pub calls_at_positions : List Entry → List ℕ → List Executed
calls_at_positions es [] = []
calls_at_positions es (p ∷ ps) = call_first (drop p es) ++ calls_at_positions es ps

-- what is kept of a status
abbrev pub IsKept : List Entry → Option Transaction → Status → Type 0
IsKept es None idle = ⊤
IsKept es (Some (Live flags positions)) (live same age calls) =
    (flags ≡ same) × (calls ≡ calls_at_positions es positions)
IsKept es (Some (Doomed flags)) (doomed cause same age) = flags ≡ same
IsKept es _ _ = ⊥

-- whether an entry suits
abbrev pub suits_kept : Bool → Option Transaction → Op → Reply → Bool
suits_kept false kept op reply = is_no_process reply
suits_kept true None op reply = suits_idle op reply
suits_kept true (Some (Live flags positions)) op reply = suits_live flags op reply
suits_kept true (Some (Doomed flags)) op reply = is_clash reply

-- one more call
abbrev pub with_position : ℕ → Option Transaction → Option Transaction
with_position at (Some (Live flags positions)) = Some (Live flags (positions ++ at ∷ []))
with_position at (Some (Doomed flags)) = Some (Doomed flags)
with_position at None = None

-- a begin
abbrev pub begun_kept : Option Transaction → Op → Option Transaction
begun_kept None (Begin flags) = Some (Live flags [])
begun_kept kept op = kept

-- a transaction is given up, or begun anew
abbrev pub begun_anew : BeginFlags → Bool → Option Transaction
begun_anew flags again = if again then Some (Live flags []) else None

abbrev pub settled_kept : Option Transaction → Bool → Option Transaction
settled_kept None again = None
settled_kept (Some (Live flags positions)) again = begun_anew flags again
settled_kept (Some (Doomed flags)) again = begun_anew flags again

-- after an entry of the process itself, which stands at this position
abbrev pub own_kept : ℕ → Option Transaction → Op → Reply → Option Transaction
own_kept at kept op (Answers a) = with_position at kept
own_kept at kept op (Refuses e) = with_position at kept
own_kept at kept op Begun = begun_kept kept op
own_kept at kept op Committed = None
own_kept at kept op (GivenUp again) = settled_kept kept again
own_kept at kept op (Aborted why again) = settled_kept kept again
own_kept at kept op (Busy cause) = kept
own_kept at kept op InTransaction = kept
own_kept at kept op NotInTransaction = kept
own_kept at kept op HistoryFull = kept
own_kept at kept op NoMemory = kept
own_kept at kept op NoProcess = kept

-- after an entry that dooms it
abbrev pub doomed_kept : Option Transaction → Option Transaction
doomed_kept (Some (Live flags positions)) = Some (Doomed flags)
doomed_kept (Some (Doomed flags)) = Some (Doomed flags)
doomed_kept None = None

-- whether an entry commits
abbrev pub is_end : Op → Bool
is_end End = true
is_end _ = false

-- the calls that an entry runs on the committed state
abbrev pub run_kept : Bool → Option Transaction → List Entry → Op → Reply → List ℕ → List Executed
run_kept false kept es op reply chosen = []
run_kept true None es op reply chosen = call_in op reply chosen
run_kept true (Some (Live flags positions)) es op reply chosen =
    if is_end op then calls_at_positions es positions else []
run_kept true (Some (Doomed flags)) es op reply chosen = []

-- what is kept of a process after an entry at this position
abbrev pub next_kept : ℕ → Entry → ℕ → Option Transaction → Option Transaction
next_kept at e q kept =
    let own = if q == e.pid then own_kept at kept e.op e.reply else kept in
    if is_in q e.doomed then doomed_kept own else own
