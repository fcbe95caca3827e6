-- What one line comes to, and why it can stop the stream.
use Rattle.std.specs.Prelude.{◌≡◌, ◌<◌, ◌≤◌, ◌+◌, ◌^◌, ◌++◌, ◌∷◌, ◌==◌, ◌⊎◌, ℕ, List, []}
use Rattle.std.specs.Prelude.{Bool, true, false, ⊤, is_some, length, sum, take, if◌then◌else◌}
use Rattle.std.specs.Prelude.{Option, Some, None, Result, Ok, Err}
use Rattle.history.specs.Log.{Log, kept}
use Rattle.ids.specs.declared.call.Op.{Op}
use Rattle.ids.specs.declared.entry.Entry.{Entry}
use Rattle.ids.specs.declared.limits.Limits.{Limits}
use Rattle.machine.specs.Shown.{Shown, Kept, setup_of}
use Rattle.machine.specs.Steps.{forgetting, has_place}
use Rattle.replay.specs.Checked.{IsFaultFor}
use Rattle.replay.specs.declared.checking.CheckFault.{CheckFault}
use Rattle.replay.specs.declared.checking.CheckFault.TheVariants.{Wrong}
use Rattle.replay.specs.declared.checking.CheckFault.TheVariants.{NoMemory as NoCheckMemory}
use Rattle.script.specs.Lines.{first_line_of, further_line_of}
use Rattle.script.specs.declared.read.Line.{Line}
use Rattle.script.specs.declared.faults.ScriptFault.{ScriptFault}
use Rattle.transcript.specs.Line.{line_of}
use Rattle.stream.specs.Answers.{IsKernelOf, fault_line}
use Rattle.stream.specs.declared.fault.StreamFault.{StreamFault}
use Rattle.stream.specs.declared.fault.StreamFault.TheVariants as stop
use Rattle.stream.specs.declared.follower.Follower.{Follower}
use Rattle.stream.specs.declared.heard.Heard.{Heard}
use Rattle.stream.specs.declared.doing.StepRefusal.{StepRefusal}
use Rattle.stream.specs.declared.doing.StepRefusal.TheVariants as refusal
use Rattle.stream.specs.declared.heard.Heard.TheVariants as heard

-- A kernel has made these entries more, and is otherwise the same to a reader of its history. Some
-- of its entries may have been forgotten meanwhile.
pub record HasGrown (old new : Shown) (more : List Entry) : Type 0 where
  pub sound : Kept new
  pub same_priorities : new.log.priorities ≡ old.log.priorities
  pub same_limit : new.log.limit ≡ old.log.limit
  pub same_bounds : new.log.bounds ≡ old.log.bounds
  pub entries : new.log.entries ≡ old.log.entries ++ more

-- A kernel has done an operation: one entry more, which is kept.
pub record HasDone (pid : ℕ) (op : Op) (old new : Shown) : Type 0 where
  pub entry : Entry
  pub same_pid : entry.pid ≡ pid
  pub same_op : entry.op ≡ op
  pub grown : HasGrown old new (entry ∷ [])
  pub here : sum new.log.forgotten < length new.log.entries

-- The line asks an operation, and that is done.
pub record DoesLine (said : Result (Option Line) ScriptFault) (old new : Shown) : Type 0 where
  pub line : Line
  pub asks : said ≡ Ok (Some line)
  pub done : HasDone line.pid line.op old new

-- what a line behind the priorities comes to: only an operation makes an entry
abbrev pub ComesFurther :
    Result (Option Line) ScriptFault → (old new : Shown) → Heard → Type 0
ComesFurther said old new heard.Nothing = (said ≡ Ok None) × HasGrown old new []
ComesFurther said old new heard.Operation = DoesLine said old new
ComesFurther said old new (heard.Fault why) = (said ≡ Err why) × HasGrown old new []

-- The line gives the priorities, and a kernel is made with them.
pub record MakesKernel
    (said : Result (Option (List ℕ)) ScriptFault) (limits : Limits) (kernel : Shown)
    : Type 0 where
  pub priorities : List ℕ
  pub gives : said ≡ Ok (Some priorities)
  pub made : IsKernelOf priorities limits kernel
  pub fresh : kernel.log.entries ≡ []

-- what a line before there are priorities comes to
abbrev pub ComesFirst :
    Result (Option (List ℕ)) ScriptFault → Limits → Option Shown → Heard → Type 0
ComesFirst said limits None heard.Nothing = said ≡ Ok None
ComesFirst said limits (Some kernel) heard.Nothing = MakesKernel said limits kernel
ComesFirst said limits None heard.Operation = ⊥
ComesFirst said limits (Some kernel) heard.Operation = ⊥
ComesFirst said limits None (heard.Fault why) = said ≡ Err why
ComesFirst said limits (Some kernel) (heard.Fault why) = ⊥

-- what the line with this number comes to, with the kernel before and after it
abbrev pub Comes : ℕ → List ℕ → Limits → (old new : Option Shown) → Heard → Type 0
Comes number line limits None new what =
    ComesFirst (first_line_of number line) limits new what
Comes number line limits (Some old) (Some new) what =
    ComesFurther (further_line_of number line) old new what
Comes number line limits (Some old) None what = ⊥

-- It has checked the first entries, as many as it counts. All that were forgotten are among them.
pub record HasCheckedFirst (follower : Follower) (log : Log) : Type 0 where
  pub checked : follower.checker
      ≡ record { root = 0; setup = setup_of log; entries = take follower.count log.entries }
  pub forgotten : sum log.forgotten ≤ follower.count
  pub made : follower.count ≤ length log.entries

-- The follower, if there is one, has checked all entries that were forgotten, and perhaps others.
abbrev pub Follows : Option Follower → Log → Type 0
Follows None log = ⊤
Follows (Some follower) log = HasCheckedFirst follower log

-- There is one where a check is wanted, once there is a kernel.
abbrev pub IsFollowed : Bool → Option Follower → Option Shown → Type 0
IsFollowed check follower None = follower ≡ None
IsFollowed check follower (Some kernel) = (is_some follower ≡ check) × Follows follower kernel.log

-- The line asks an operation, and its places are not free.
pub record IsFullFor (said : Result (Option Line) ScriptFault) (kernel : Shown) : Type 0 where
  pub line : Line
  pub asks : said ≡ Ok (Some line)
  pub full : has_place kernel.log line.pid line.op ≡ false

-- why a line is not done: its places are not free, or memory was refused
abbrev pub Refuses : Result (Option Line) ScriptFault → Shown → StepRefusal → Type 0
Refuses said kernel refusal.HistoryFull = IsFullFor said kernel
Refuses said kernel refusal.NoMemory = ⊤

abbrev pub fault_of_refusal : StepRefusal → StreamFault
fault_of_refusal refusal.HistoryFull = stop.HistoryFull
fault_of_refusal refusal.NoMemory = stop.NoMemory

abbrev pub fault_of_check : CheckFault → StreamFault
fault_of_check NoCheckMemory = stop.NoMemory
fault_of_check (Wrong position) = stop.Check position

-- why entries are not forgotten that could be: one of them is wrong, or memory was refused to the
-- check
abbrev pub CannotForget : Log → StreamFault → Type 0
CannotForget log (stop.Check position) =
    IsFaultFor 0 (setup_of log) log.entries (Wrong position)
CannotForget log stop.NoMemory = ⊤
CannotForget log _ = ⊥

-- All that was kept is forgotten, or that cannot be: with 2^63 entries or more none can any more.
abbrev pub Forgets : (old new : Shown) → Type 0
Forgets old new = (new ≡ forgetting old) ⊎ ((new ≡ old) × (2 ^ 63 ≤ length old.log.entries))

-- why places are missing that a line needs: nothing is kept, or it cannot be forgotten
abbrev pub fault_of_full : Log → StreamFault
fault_of_full log = if length (kept log) == 0 then stop.HistoryFull else stop.Spent

-- Why the stream stops at a line behind the priorities. Where its places are missing, nothing is
-- kept that would have to be forgotten for them, or it cannot be, with 2^63 entries or more.
abbrev pub StopsFurther : Result (Option Line) ScriptFault → Shown → StreamFault → Type 0
StopsFurther said kernel stop.HistoryFull = IsFullFor said kernel × (kept kernel.log ≡ [])
StopsFurther said kernel (stop.Check position) = CannotForget kernel.log (stop.Check position)
StopsFurther said kernel stop.NoMemory = ⊤
StopsFurther said kernel stop.Spent =
    IsFullFor said kernel × (2 ^ 63 ≤ length kernel.log.entries)
StopsFurther said kernel stop.Read = ⊥
StopsFurther said kernel stop.Write = ⊥

-- before there are priorities only memory can be refused
abbrev pub StopsFirst : StreamFault → Type 0
StopsFirst stop.NoMemory = ⊤
StopsFirst _ = ⊥

-- why it stops at the line with this number
abbrev pub StopsAt : ℕ → List ℕ → Option Shown → StreamFault → Type 0
StopsAt number line (Some kernel) why = StopsFurther (further_line_of number line) kernel why
StopsAt number line None why = StopsFirst why

-- It has checked all entries.
pub record HasCheckedAll (follower : Follower) (log : Log) : Type 0 where
  pub checked : follower.checker
      ≡ record { root = 0; setup = setup_of log; entries = log.entries }
  pub count : follower.count ≡ length log.entries

-- the follower, if there is one, has checked all entries
abbrev pub HasFollowed : Option Follower → Log → Type 0
HasFollowed None log = ⊤
HasFollowed (Some follower) log = HasCheckedAll follower log

-- the line of the last entry, where that is kept
abbrev pub IsLastLine : Log → List ℕ → Type 0
IsLastLine log text = (before : List Entry) → (entry : Entry) → log.entries ≡ before ++ entry ∷ []
    → sum log.forgotten < length log.entries → text ≡ line_of (length before + 1) entry

-- What is printed of what a line has come to. An operation's entry is the last one, and is kept.
abbrev pub IsTold : Heard → Option Shown → List ℕ → Type 0
IsTold heard.Nothing kernel text = text ≡ []
IsTold (heard.Fault why) kernel text = text ≡ fault_line why
IsTold heard.Operation None text = ⊤
IsTold heard.Operation (Some kernel) text = IsLastLine kernel.log text

-- a fault that comes of a line, and not of a device
abbrev pub IsOfLine : StreamFault → Type 0
IsOfLine stop.Read = ⊥
IsOfLine stop.Write = ⊥
IsOfLine _ = ⊤

-- whether a line was a fault
abbrev pub is_fault : Heard → Bool
is_fault heard.Nothing = false
is_fault heard.Operation = false
is_fault (heard.Fault why) = true
