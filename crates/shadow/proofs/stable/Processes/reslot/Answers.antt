use Rattle.std.proofs.Common.{◌≡◌, ◌≢◌, ◌≤◌, ◌∙◌, ◌<◌, ℕ, Option, None, Some, IfOk, ◌-◌, length, get_or, sym, ap, subst, arith, vec_len}
use Rattle.notes.proofs.Laws.{ok_so}
use Rattle.model.specs.FiniteMap.{get}
use Rattle.model.specs.State.{Process}
use Rattle.notes.specs.Openings.{slot_noted}
use Rattle.shadow.specs.Stored.{Processes, numbered, with_process}
use Rattle.shadow.specs.Laid.{table_in}
use Rattle.shadow.proofs.shared.ProcessLemmas.{IsProcess, is_process, read_there}
use Rattle.shadow.proofs.stable.Processes.reslot.Goals as goal

-- of a value and of what it shows: the process is there, and is what is read at its place
module _ (ps qs : Processes) (given pid : ℕ) (shown : ps ≡ qs) (same : given ≡ pid) (living : get (numbered qs) pid ≢ None) where
  shows : get (numbered ps) given ≡ get (numbered qs) pid
  shows = ap (get (numbered ps)) same ∙ ap (λ (ps : Processes). get (numbered ps) pid) shown

  there : IsProcess ps given
  there = is_process ps given (λ none. living (sym shows ∙ none))

  reads : (o : Option Process) → o ≡ get_or ps.list (given - 1) o → o ≡ get (numbered qs) pid
  reads o is = read_there ps given o there is ∙ shows

pub overflow_sub-index : goal.overflow_sub-index
overflow_sub-index c =
    let is : IsProcess c.args.self.now c.args.pid = is_process c.args.self.now c.args.pid c.requires.pid in
    let some : 0 < c.args.pid = is.some in
    let same : c.pid.inside.0 ≡ c.args.pid = c.pid.view_is in
    omega (arith, some, same)

pub index_mut-requires : goal.index_mut-requires
index_mut-requires c =
    let ps : Processes = record { list = c.self.inside.list.items; bounds = c.self.inside.bounds } in
    let is : IsProcess ps c.pid.inside.0 = there ps c.args.self.now c.pid.inside.0 c.args.pid c.self.view_is c.pid.view_is c.requires.pid in
    let some : 0 < c.pid.inside.0 = is.some in
    let low : c.pid.inside.0 ≤ length ps.list = is.low in
    let count : vec_len c.self.inside.list ≡ length ps.list = c.self.inside.list.ok.0 in
    omega (arith, some, low, count)

pub unreachable-requires : goal.unreachable-requires
unreachable-requires c =
    let ps : Processes = record { list = c.self.inside.list.items; bounds = c.self.inside.bounds } in
    absurd (c.requires.pid (sym (reads ps c.args.self.now c.pid.inside.0 c.args.pid c.self.view_is c.pid.view_is c.requires.pid c.index_mut.result.now c.index_mut.ensures.value)
    ∙ c.in-None.is))

pub returns-clause-former : goal.returns-clause-former
returns-clause-former c =
    let ps : Processes = record { list = c.self.inside.list.items; bounds = c.self.inside.bounds } in
    let here : Some c.in-Some.process ≡ get (numbered c.args.self.now) c.args.pid =
    sym c.in-Some.is ∙ reads ps c.args.self.now c.pid.inside.0 c.args.pid c.self.view_is c.pid.view_is c.requires.pid c.index_mut.result.now c.index_mut.ensures.value in
    subst (λ (o : Option Process). IfOk c.give_in.result (λ former. former ≡ get (table_in o) c.args.fd)) here c.give_in.ensures.former

pub returns-clause-slot : goal.returns-clause-slot
returns-clause-slot c =
    let ps : Processes = record { list = c.self.inside.list.items; bounds = c.self.inside.bounds } in
    let here : Some c.in-Some.process ≡ get (numbered c.args.self.now) c.args.pid =
    sym c.in-Some.is ∙ reads ps c.args.self.now c.pid.inside.0 c.args.pid c.self.view_is c.pid.view_is c.requires.pid c.index_mut.result.now c.index_mut.ensures.value in
    let new : Option Process = slot_noted c.args.fd c.args.given (get (numbered c.args.self.now) c.args.pid) in
    ok_so c.give_in.result (λ is.
    ap (λ (now : Option Process). with_process c.pid.inside.0 now ps)
    (is ∙ ap (slot_noted c.args.fd c.args.given) here)
    ∙ ap (λ (qs : Processes). with_process c.pid.inside.0 new qs) c.self.view_is
    ∙ ap (λ q. with_process q new c.args.self.now) c.pid.view_is)
    c.give_in.ensures.slot
