use Rattle.std.proofs.Common.{◌≡◌, ◌<◌, ◌≤◌, ◌∙◌, ℕ, length, sym, ap, inl, inr, arith}
use Rattle.model.specs.FiniteMap.{get}
use Rattle.shadow.specs.Stored.{Processes, numbered}
use Rattle.shadow.proofs.shared.ProcessLemmas.{IsProcess, no_process, read_there}
use Rattle.shadow.proofs.stable.Processes.process.Goals as goal
use Rattle.shadow.proofs.stable.Processes.process.Goals.{else-number-gt0-via-then-number-gt0+else-number-len, else-number-gt0-via-else-number-gt0}

-- said of a value, and of what it shows
shows : (ps qs : Processes) (given pid : ℕ) → ps ≡ qs → given ≡ pid → get (numbered ps) given ≡ get (numbered qs) pid
shows ps qs given pid shown same = ap (get (numbered ps)) same ∙ ap (λ (ps : Processes). get (numbered ps) pid) shown

pub returns-then-number-len : goal.returns-then-number-len
returns-then-number-len c =
    let ps : Processes = record { list = c.self.inside.list.items; bounds = c.self.inside.bounds } in
    let some : 0 < c.pid.inside.0 = c.if-number-gt0.true in
    let test : c.pid.inside.0 ≤ c.len.result = c.if-number-len.true in
    let count : c.len.result ≡ length c.self.inside.list.items = c.len.ensures ∙ c.self.inside.list.ok.0 in
    let is : IsProcess ps c.pid.inside.0 = record { some = some; low = omega (arith, test, count) } in
    c.as_ref.ensures.value
    ∙ read_there ps c.pid.inside.0 c.index.result.now is c.index.ensures
    ∙ shows ps c.args.self.now c.pid.inside.0 c.args.pid c.self.view_is c.pid.view_is

pub returns-else-number-gt0 : goal.returns-else-number-gt0
returns-else-number-gt0 c =
    let ps : Processes = record { list = c.self.inside.list.items; bounds = c.self.inside.bounds } in
    elim c.else-number-gt0.branch [
      | else-number-gt0-via-then-number-gt0+else-number-len w ↦
          (let count : w.len.result ≡ length ps.list = w.len.ensures ∙ c.self.inside.list.ok.0 in
          sym (no_process ps c.pid.inside.0 (inr (omega (arith, w.if-number-len.false, count))))
          ∙ shows ps c.args.self.now c.pid.inside.0 c.args.pid c.self.view_is c.pid.view_is)
      | else-number-gt0-via-else-number-gt0 w ↦
          sym (no_process ps c.pid.inside.0 (inl (omega (arith, w.if-number-gt0.false))))
          ∙ shows ps c.args.self.now c.pid.inside.0 c.args.pid c.self.view_is c.pid.view_is
    ]
