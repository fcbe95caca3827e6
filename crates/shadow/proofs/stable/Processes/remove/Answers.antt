use Rattle.std.proofs.Common.{◌≡◌, ◌≢◌, ◌≤◌, ◌∙◌, ◌<◌, ℕ, Option, None, ◌-◌, length, get_or, sym, ap, arith, vec_len}
use Rattle.model.specs.FiniteMap.{get}
use Rattle.model.specs.State.{Process}
use Rattle.shadow.specs.Laid.{table_in}
use Rattle.shadow.specs.Stored.{Processes, numbered}
use Rattle.shadow.proofs.shared.ProcessLemmas.{IsProcess, is_process, read_there}
use Rattle.shadow.proofs.stable.Processes.remove.Goals as goal

-- of a value and of what it shows: the process is there, and is what is read at its place
module _ (ps qs : Processes) (given pid : ℕ) (shown : ps ≡ qs) (same : given ≡ pid) (living : get (numbered qs) pid ≢ None) where
  shows : get (numbered ps) given ≡ get (numbered qs) pid
  shows = ap (get (numbered ps)) same ∙ ap (λ (ps : Processes). get (numbered ps) pid) shown

  there : IsProcess ps given
  there = is_process ps given (λ none. living (sym shows ∙ none))

  reads : (o : Option Process) → o ≡ get_or ps.list (given - 1) o → o ≡ get (numbered qs) pid
  reads o is = read_there ps given o there is ∙ shows

pub overflow_sub-pid-inside : goal.overflow_sub-pid-inside
overflow_sub-pid-inside c =
    let ps : Processes = record { list = c.self.inside.list.items; bounds = c.self.inside.bounds } in
    let is : IsProcess ps c.pid.inside.0 = there ps c.args.self.now c.pid.inside.0 c.args.pid c.self.view_is c.pid.view_is c.requires in
    is.some

pub index_mut-requires : goal.index_mut-requires
index_mut-requires c =
    let ps : Processes = record { list = c.self.inside.list.items; bounds = c.self.inside.bounds } in
    let is : IsProcess ps c.pid.inside.0 = there ps c.args.self.now c.pid.inside.0 c.args.pid c.self.view_is c.pid.view_is c.requires in
    let some : 0 < c.pid.inside.0 = is.some in
    let low : c.pid.inside.0 ≤ length ps.list = is.low in
    let count : vec_len c.self.inside.list ≡ length ps.list = c.self.inside.list.ok.0 in
    omega (arith, some, low, count)

pub unreachable-requires : goal.unreachable-requires
unreachable-requires c =
    let ps : Processes = record { list = c.self.inside.list.items; bounds = c.self.inside.bounds } in
    absurd (c.requires (sym (reads ps c.args.self.now c.pid.inside.0 c.args.pid c.self.view_is c.pid.view_is c.requires c.index_mut.result.now c.index_mut.ensures.value)
    ∙ sym c.take.ensures.value ∙ c.in-None.is))

pub returns-clause-table : goal.returns-clause-table
returns-clause-table c =
    let ps : Processes = record { list = c.self.inside.list.items; bounds = c.self.inside.bounds } in
    c.into_table.ensures
    ∙ ap table_in (sym c.in-Some.is ∙ c.take.ensures.value
    ∙ reads ps c.args.self.now c.pid.inside.0 c.args.pid c.self.view_is c.pid.view_is c.requires c.index_mut.result.now c.index_mut.ensures.value)
