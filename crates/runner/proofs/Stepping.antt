-- One more step, and where the steps end.
use Rattle.std.proofs.Common.{◌≡◌, ℕ, ◌<◌, inr, List, [], ◌∷◌, ◌++◌, Option, Result, Ok, Err, refl, sym, ap, subst, ◌∙◌, take, length, get_or, IfErr, le_refl}
use Rattle.std.specs.Prelude.{OnOk, ◌≢◌}
use Rattle.std.specs.Io.KnownBytes.{append_known}
use Rattle.std.proofs.lemmas.List.{map-append, take_all}
use Rattle.std.proofs.lemmas.Option.{slice_get_read}
use Rattle.device.specs.Device.{IsPart}
use Rattle.history.specs.Log.{Log}
use Rattle.ids.specs.declared.call.Op.{Op}
use Rattle.ids.specs.declared.entry.Entry.{Entry}
use Rattle.ids.specs.declared.limits.Limits.{Limits}
use Rattle.machine.specs.Shown.{Shown, Kept}
use Rattle.transcript.specs.Line.{transcript}
use Rattle.script.specs.Contents.{ScriptContents}
use Rattle.script.specs.Steps.{steps as steps_in}
use Rattle.runner.specs.Runs.{Ended, GivesBoth}
use Rattle.runner.specs.Steps.{operations, Halted, HasDone, StopsWriting, Stops}
use Rattle.stream.specs.Doing.{Refused, Took}
use Rattle.runner.specs.Faults.{fault_of_refusal}
use Rattle.stream.specs.declared.doing.StepRefusal.{StepRefusal}
use Rattle.stream.specs.declared.doing.StepRefusal.TheVariants as refusal
use Rattle.runner.specs.declared.fault.RunFault.{RunFault}
use Rattle.runner.specs.declared.fault.RunFault.TheVariants.{Script, Schedule, Read, Write, HistoryFull, NoMemory, Check}

-- a kernel that has taken one more step
pub HasDone-took : {priorities : List ℕ} {limits : Limits} {steps : List (ℕ × Op)} {old new : Shown} {pid : ℕ} {op : Op}
    → HasDone priorities limits steps old → Kept new → Took old.log new.log pid op → HasDone priorities limits (steps ++ (pid, op) ∷ []) new
HasDone-took {old = old} {pid = pid} {op = op} h kept t =
    let entry : Entry = record { pid = pid; op = op; reply = t.reply; chosen = t.added.chosen; doomed = t.added.doomed } in
    record {
      kept = kept;
      same_priorities = ap (λ (l : Log). l.priorities) t.added.is ∙ h.same_priorities;
      same_limit = ap (λ (l : Log). l.limit) t.added.is ∙ h.same_limit;
      same_bounds = ap (λ (l : Log). l.bounds) t.added.is ∙ h.same_bounds;
      whole = ap (λ (l : Log). l.forgotten) t.added.is ∙ h.whole;
      done = ap (λ (l : Log). operations l.entries) t.added.is
          ∙ map-append (λ (e : Entry). (e.pid, e.op)) old.log.entries (entry ∷ [])
          ∙ ap (λ (xs : List (ℕ × Op)). xs ++ (pid, op) ∷ []) h.done;
    }

-- the same steps, said in another way
HasDone-as : {priorities : List ℕ} {limits : Limits} {steps others : List (ℕ × Op)} {kernel : Shown} → HasDone priorities limits steps kernel → steps ≡ others → HasDone priorities limits others kernel
HasDone-as h e = record { kept = h.kept; same_priorities = h.same_priorities; same_limit = h.same_limit; same_bounds = h.same_bounds; whole = h.whole; done = h.done ∙ e }

-- where the next step is refused
halts : (r : Result (Unit {0}) StepRefusal) (priorities : List ℕ) (limits : Limits) (steps done : List (ℕ × Op)) (kernel : Shown) (pid : ℕ) (op : Op)
    → IfErr r (Refused kernel.log pid op) → HasDone priorities limits done kernel
    → done ≡ take (length done) steps → (length done < length steps) × ((pid, op) ≡ get_or steps (length done) (pid, op))
    → IfErr r (λ refusal. Halted refusal priorities limits steps kernel)
halts (Ok u) priorities limits steps done kernel pid op refused h so_far next = tt
halts (Err why) priorities limits steps done kernel pid op refused h so_far next = record {
  count = length done;
  done = HasDone-as h so_far;
  pid = pid;
  op = op;
  next = slice_get_read steps (length steps) (length done) (pid, op) refl next.0 next.1;
  refused = refused;
}

pub halts-as : (q r : Result (Unit {0}) StepRefusal) (priorities : List ℕ) (limits : Limits) (steps done : List (ℕ × Op)) (kernel after : Shown) (pid : ℕ) (op : Op)
    → q ≡ r → after ≡ kernel → IfErr r (Refused kernel.log pid op) → HasDone priorities limits done kernel
    → done ≡ take (length done) steps → (length done < length steps) × ((pid, op) ≡ get_or steps (length done) (pid, op))
    → IfErr q (λ refusal. Halted refusal priorities limits steps after)
halts-as q r priorities limits steps done kernel after pid op e same refused h so_far next =
    let there : IfErr r (λ refusal. Halted refusal priorities limits steps kernel) = halts r priorities limits steps done kernel pid op refused h so_far next in
    let here : IfErr q (λ refusal. Halted refusal priorities limits steps kernel) = subst (λ (z : Result (Unit {0}) StepRefusal). IfErr z (λ refusal. Halted refusal priorities limits steps kernel)) (sym e) there in
    subst (λ (k : Shown). IfErr q (λ refusal. Halted refusal priorities limits steps k)) (sym same) here

-- steps that were all done, or done up to one that was refused
reached : (r : Result (Unit {0}) StepRefusal) (priorities : List ℕ) (limits : Limits) (steps : List (ℕ × Op)) (kernel : Shown)
    → OnOk r (HasDone priorities limits steps kernel) → IfErr r (λ refusal. Halted refusal priorities limits steps kernel)
    → (count : ℕ) × HasDone priorities limits (take count steps) kernel
reached (Ok u) priorities limits steps kernel done halted = (length steps, HasDone-as done (sym (take_all (length steps) steps (le_refl (length steps)))))
reached (Err why) priorities limits steps kernel done halted = (halted.count, halted.done)

-- where of their transcript a beginning is written
pub stops-writing : (q : Result (Unit {0}) RunFault) (r : Result (Unit {0}) StepRefusal) (priorities : List ℕ) (limits : Limits) (steps : List (ℕ × Op)) (old new : Option (List ℕ)) (kernel : Shown)
    → q ≡ Err Write → OnOk r (HasDone priorities limits steps kernel) → IfErr r (λ refusal. Halted refusal priorities limits steps kernel)
    → IsPart old new (transcript kernel.log.entries) → IfErr q (λ fault. Stops fault priorities limits steps old new)
stops-writing q r priorities limits steps old new kernel e done halted part =
    let far = reached r priorities limits steps kernel done halted in
    let there : StopsWriting priorities limits steps old new = record { count = far.0; kernel = kernel; done = far.1; part = part } in
    subst (λ (z : Result (Unit {0}) RunFault). IfErr z (λ fault. Stops fault priorities limits steps old new)) (sym e) there

-- where all of it is written
stops : (why : StepRefusal) (priorities : List ℕ) (limits : Limits) (steps : List (ℕ × Op)) (old new : Option (List ℕ)) (kernel : Shown)
    → Halted why priorities limits steps kernel → new ≡ append_known old (transcript kernel.log.entries) → Stops (fault_of_refusal why) priorities limits steps old new
stops refusal.HistoryFull priorities limits steps old new kernel h written = record { kernel = kernel; halted = h; written = written }
stops refusal.NoMemory priorities limits steps old new kernel h written = record { kernel = kernel; halted = h; written = written }

pub stops-before : (fault : RunFault) (r : Result (Unit {0}) StepRefusal) (why : StepRefusal) (priorities : List ℕ) (limits : Limits) (steps : List (ℕ × Op)) (old new : Option (List ℕ)) (kernel : Shown)
    → fault ≡ fault_of_refusal why → r ≡ Err why → IfErr r (λ refusal. Halted refusal priorities limits steps kernel) → new ≡ append_known old (transcript kernel.log.entries)
    → Stops fault priorities limits steps old new
stops-before fault r why priorities limits steps old new kernel is e halted written =
    let h : Halted why priorities limits steps kernel = subst (λ (z : Result (Unit {0}) StepRefusal). IfErr z (λ refusal. Halted refusal priorities limits steps kernel)) e halted in
    subst (λ (f : RunFault). Stops f priorities limits steps old new) (sym is) (stops why priorities limits steps old new kernel h written)

-- what refuses a step is no write
no_write : (why : StepRefusal) → fault_of_refusal why ≢ Write
no_write refusal.HistoryFull e = cc e
no_write refusal.NoMemory e = cc e

pub refused-no_write : (fault : RunFault) (why : StepRefusal) → fault ≡ fault_of_refusal why → fault ≢ Write
refused-no_write fault why is e = no_write why (sym is ∙ e)

-- where a fault stops the steps it ends the run
pub ended : (fault : RunFault) (list : List ℕ) (limits : Limits) (given left old new : Option (List ℕ)) (script : ScriptContents) (pids : List ℕ)
    → GivesBoth given left list script pids → Stops fault script.priorities limits (steps_in script.lines pids) old new → Ended list limits given left old new fault
ended Write list limits given left old new script pids both stops = record { script = script; pids = pids; read = both; stops = stops }
ended HistoryFull list limits given left old new script pids both stops = record { script = script; pids = pids; read = both; stops = stops }
ended NoMemory list limits given left old new script pids both stops = inr (record { script = script; pids = pids; read = both; stops = stops })
ended (Script fault) list limits given left old new script pids both stops = absurd stops
ended (Schedule fault) list limits given left old new script pids both stops = absurd stops
ended Read list limits given left old new script pids both stops = absurd stops
ended (Check position) list limits given left old new script pids both stops = absurd stops
