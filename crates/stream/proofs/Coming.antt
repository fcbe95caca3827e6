-- What a line has come to, by what was read and what the kernel did.
use Rattle.std.proofs.Common.{◌≡◌, ◌≢◌, ◌≤◌, ◌^◌, ◌==◌, ℕ, List, [], ◌∷◌, length, Bool, true, false, Option, Some, None, Result, Ok, Err, refl, sym, ◌∙◌, subst, inl, inr, arith, IfErr, IfOk, OnErr, OnOk}
use Rattle.std.specs.Prelude.{if◌then◌else◌}
use Rattle.std.proofs.lemmas.Bool.{ne_eqb}
use Rattle.history.specs.Log.{Log, kept}
use Rattle.ids.specs.declared.limits.Limits.{Limits}
use Rattle.machine.specs.Shown.{Shown}
use Rattle.replay.specs.declared.checking.CheckFault.{CheckFault}
use Rattle.replay.specs.declared.checking.CheckFault.TheVariants as check
use Rattle.script.specs.Scripts.{IsFault}
use Rattle.script.specs.declared.read.Line.{Line}
use Rattle.script.specs.declared.faults.ScriptFault.{ScriptFault}
use Rattle.script.specs.declared.faults.ScriptFault.TheVariants as fault
use Rattle.stream.specs.Doing.{Refused}
use Rattle.stream.specs.Heard.{CannotForget, ComesFirst, ComesFurther, DoesLine, HasDone, HasGrown, Forgets, IsFullFor, IsOfLine, Refuses, StopsFurther, fault_of_check, fault_of_full, fault_of_refusal}
use Rattle.stream.specs.declared.fault.StreamFault.{StreamFault}
use Rattle.stream.specs.declared.fault.StreamFault.TheVariants as stop
use Rattle.stream.specs.declared.heard.Heard.{Heard}
use Rattle.stream.specs.declared.heard.Heard.TheVariants as heard
use Rattle.stream.specs.declared.doing.StepRefusal.{StepRefusal}
use Rattle.stream.specs.declared.doing.StepRefusal.TheVariants as refusal
use Rattle.stream.proofs.Forgotten.{none_kept_in}

does_line : (said : Result (Option Line) ScriptFault) (old new : Shown) (line : Line) (what : Heard)
    → said ≡ Ok (Some line) → what ≡ heard.Operation → HasDone line.pid line.op old new → ComesFurther said old new what
does_line said old new line what e is done =
    let does : DoesLine said old new = record { line = line; asks = e; done = done } in
    subst (λ (h : Heard). ComesFurther said old new h) (sym is) does

-- a line that asks an operation
pub comes_done : (r : Result Heard StepRefusal) (said : Result (Option Line) ScriptFault) (old new : Shown) (line : Line)
    → said ≡ Ok (Some line) → IfOk r (λ what. what ≡ heard.Operation) → OnOk r (HasDone line.pid line.op old new) → IfOk r (ComesFurther said old new)
comes_done (Ok what) said old new line e is done = does_line said old new line what e is done
comes_done (Err why) said old new line e is done = tt

pub refuses_line : (r : Result Heard StepRefusal) (said : Result (Option Line) ScriptFault) (old new : Shown) (line : Line)
    → said ≡ Ok (Some line) → OnErr r (new ≡ old) → IfErr r (Refused old.log line.pid line.op) → IfErr r (Refuses said new)
refuses_line (Ok what) said old new line e same refused = tt
refuses_line (Err refusal.HistoryFull) said old new line e same refused =
    subst (λ (k : Shown). Refuses said k refusal.HistoryFull) (sym same) (record { line = line; asks = e; full = refused })
refuses_line (Err refusal.NoMemory) said old new line e same refused = tt

fault_line : (said : Result (Option Line) ScriptFault) (kernel : Shown) (why : ScriptFault) (what : Heard)
    → said ≡ Err why → what ≡ heard.Fault why → HasGrown kernel kernel [] → ComesFurther said kernel kernel what
fault_line said kernel why what e is grown = subst (λ (h : Heard). ComesFurther said kernel kernel h) (sym is) (e, grown)

-- a line that is a fault
pub comes_fault : (r : Result Heard StepRefusal) (said : Result (Option Line) ScriptFault) (kernel : Shown) (why : ScriptFault)
    → IsFault said why → IfOk r (λ what. what ≡ heard.Fault why) → OnOk r (why ≢ fault.NoMemory) → HasGrown kernel kernel [] → IfOk r (ComesFurther said kernel kernel)
comes_fault (Ok what) said kernel why spelled is other grown = fault_line said kernel why what (spelled other) is grown
comes_fault (Err refused) said kernel why spelled is other grown = tt

pub refuses_memory : (r : Result Heard StepRefusal) (said : Result (Option Line) ScriptFault) (kernel : Shown)
    → IfErr r (λ why. why ≡ refusal.NoMemory) → IfErr r (Refuses said kernel)
refuses_memory (Ok what) said kernel is = tt
refuses_memory (Err why) said kernel is = subst (λ (w : StepRefusal). Refuses said kernel w) (sym is) tt

-- a fault before there are priorities
pub first_fault : (r : Result Heard StepRefusal) (said : Result (Option (List ℕ)) ScriptFault) (limits : Limits) (why : ScriptFault)
    → IsFault said why → IfOk r (λ what. what ≡ heard.Fault why) → OnOk r (why ≢ fault.NoMemory) → IfOk r (ComesFirst said limits None)
first_fault (Ok what) said limits why spelled is other = subst (λ (h : Heard). ComesFirst said limits None h) (sym is) (spelled other)
first_fault (Err refused) said limits why spelled is other = tt

-- a list without elements
no_elements : {A : Type 0} (xs : List A) → (length xs == 0) ≡ true → xs ≡ []
no_elements [] e = refl
no_elements (x ∷ xs) e =
    let some : (length (x ∷ xs) == 0) ≡ false = ne_eqb (length (x ∷ xs)) 0 (λ none. absurd (omega arith)) in
    let clash : true ≡ false = sym e ∙ some in
    absurd (cc clash)

some_elements : {A : Type 0} (xs : List A) → (length xs == 0) ≡ false → xs ≡ [] → ⊥
some_elements [] e none = cc e
some_elements (x ∷ xs) e none = cc none

-- nothing is kept, or there are too many entries
cannot_more : (old new : Shown) → Forgets old new → (kept new.log ≡ [] → ⊥) → 2 ^ 63 ≤ length new.log.entries
cannot_more old new (inl e) some = absurd (some (none_kept_in old new e))
cannot_more old new (inr none) some = subst (λ (k : Shown). 2 ^ 63 ≤ length k.log.entries) (sym none.0) none.1

full_by : (none : Bool) (said : Result (Option Line) ScriptFault) (kernel : Shown) → IsFullFor said kernel
    → (none ≡ true → kept kernel.log ≡ []) → (none ≡ false → 2 ^ 63 ≤ length kernel.log.entries)
    → StopsFurther said kernel (if none then stop.HistoryFull else stop.Spent)
full_by true said kernel full empty many = (full, empty refl)
full_by false said kernel full empty many = (full, many refl)

-- why a stream stops at a line whose places are missing, though what can be is forgotten
pub stops_full : (said : Result (Option Line) ScriptFault) (old new : Shown) → Forgets old new → IsFullFor said new → StopsFurther said new (fault_of_full new.log)
stops_full said old new forgets full =
    full_by (length (kept new.log) == 0) said new full (no_elements (kept new.log)) (λ e. cannot_more old new forgets (some_elements (kept new.log) e))

-- why it stops where something cannot be forgotten
pub stops_settling : (why : StreamFault) (said : Result (Option Line) ScriptFault) (kernel : Shown) → CannotForget kernel.log why → StopsFurther said kernel why
stops_settling (stop.Check position) said kernel cannot = cannot
stops_settling stop.NoMemory said kernel cannot = tt
stops_settling stop.Spent said kernel cannot = absurd cannot
stops_settling stop.Read said kernel cannot = absurd cannot
stops_settling stop.Write said kernel cannot = absurd cannot
stops_settling stop.HistoryFull said kernel cannot = absurd cannot

-- a fault that comes of a line is none of a device
pub check_of_line : (why : CheckFault) → IsOfLine (fault_of_check why)
check_of_line check.NoMemory = tt
check_of_line (check.Wrong position) = tt

pub refusal_of_line : (why : StepRefusal) → IsOfLine (fault_of_refusal why)
refusal_of_line refusal.HistoryFull = tt
refusal_of_line refusal.NoMemory = tt

of_line_by : (none : Bool) → IsOfLine (if none then stop.HistoryFull else stop.Spent)
of_line_by true = tt
of_line_by false = tt

pub full_of_line : (why : StreamFault) (log : Log) → why ≡ fault_of_full log → IsOfLine why
full_of_line why log e = subst (λ (w : StreamFault). IsOfLine w) (sym e) (of_line_by (length (kept log) == 0))

pub no_write : {A : Type 0} (r : Result A StreamFault) → IfErr r IsOfLine → r ≡ Err stop.Write → ⊥
no_write {A} r fine e = subst (λ (z : Result A StreamFault). IfErr z IsOfLine) e fine
