use Rattle.std.proofs.Common.{◌≡◌, ◌≢◌, ◌≤◌, ◌∙◌, ◌-◌, ◌<◌, ℕ, Option, None, List, [], length, set, sym, ap, subst, inl, inr, arith}
use Rattle.std.proofs.lemmas.List.{set-get_or}
use Rattle.model.specs.FiniteMap.{entries, get}
use Rattle.model.specs.State.{Process}
use Rattle.fdtable.specs.Patches.{Given, IsFormer, IsLaid}
use Rattle.shadow.specs.declared.stable.Processes.TheInside.{Inside}
use Rattle.shadow.specs.Stored.{Processes, numbered}
use Rattle.shadow.proofs.shared.ProcessLemmas.{no_process, read_there}
use Rattle.shadow.proofs.committing.LaidTables.{IsLaidIn, laid_in, not_laid}
use Rattle.shadow.proofs.stable.Processes.lay.Goals as goal
use Rattle.shadow.proofs.stable.Processes.lay.Goals.{in-Some, in_default, else-number-gt0-via-then-number-gt0+else-number-len, else-number-gt0-via-else-number-gt0}

abbrev shown : Inside → Processes
shown s = record { list = s.list.items; bounds = s.bounds }

-- said of a number and of processes, and of what they show
as_shown : (given pid : ℕ) (ps : Processes) (s : Inside) (qs : Processes) (patch former : Given) → given ≡ pid → shown s ≡ ps → IsLaidIn given patch former (shown s) qs → IsLaidIn pid patch former ps qs
as_shown given pid ps s qs patch former same is laid =
    subst (λ q. IsLaidIn q patch former ps qs) same (subst (λ (ps : Processes). IsLaidIn given patch former ps qs) is laid)

living_shown : (given pid : ℕ) (ps : Processes) (s : Inside) (patch : Given) → given ≡ pid → shown s ≡ ps → (entries patch ≢ [] → get (numbered ps) pid ≢ None) → entries patch ≢ [] → get (numbered (shown s)) given ≢ None
living_shown given pid ps s patch same is living some none = living some (ap (get (numbered ps)) (sym same) ∙ ap (λ (ps : Processes). get (numbered ps) given) (sym is) ∙ none)

-- the same list
same_list : (patch : Given) (given : ℕ) (ps : Processes) (list : List (Option Process)) → list ≡ ps.list → IsLaidIn given patch patch ps ps → IsLaidIn given patch patch ps (record ps { list = list })
same_list patch given ps list same = subst (λ (list : List (Option Process)). IsLaidIn given patch patch ps (record ps { list = list })) (sym same)

laid : (c : goal.Joined-index_mut) → IsLaidIn c.args.pid c.args.patch.now c.match-index_mut.patch c.args.self.now (shown c.match-index_mut.self-inside)
laid c =
    let s : Inside = c.self.inside in
    let ps : Processes = shown s in
    let given : ℕ = c.pid.inside.0 in
    let patch : Given = c.args.patch.now in
    let some : 0 < given = c.if-number-gt0.true in
    let test : given ≤ c.len.result = c.if-number-len.true in
    let count : c.len.result ≡ length ps.list = c.len.ensures ∙ s.list.ok.0 in
    let low : given ≤ length ps.list = omega (arith, test, count) in
    let read : c.index_mut.result.now ≡ get (numbered ps) given = read_there ps given c.index_mut.result.now (record { some = some; low = low }) c.index_mut.ensures.value in
    as_shown given c.args.pid c.args.self.now s (shown c.match-index_mut.self-inside) patch c.match-index_mut.patch c.pid.view_is c.self.view_is
    (elim c.match-index_mut.branch [
      | in-Some w ↦
          (let new : Process = record { table = w.lay_on.new.table; priority = w.process.inside.priority } in
          subst (λ (former : Given). IsLaidIn given patch former ps (shown c.match-index_mut.self-inside)) (sym w.patch-is)
          (subst (λ (s : Inside). IsLaidIn given patch w.lay_on.new.self ps (shown s)) (sym w.self-inside-is)
          (laid_in ps given patch w.lay_on.new.self some low w.in-Some.process new (sym read ∙ w.in-Some.is)
          (subst (λ (p : Process). IsLaid patch p.table new.table) w.process.view_is w.lay_on.ensures.laid)
          (ap (λ (p : Process). p.priority) w.process.view_is)
          (subst (λ (p : Process). IsFormer patch p.table w.lay_on.new.self) w.process.view_is w.lay_on.ensures.former))))
      | in_default w ↦
          (let same : set ps.list (given - 1) c.index_mut.result.now ≡ ps.list = ap (set ps.list (given - 1)) c.index_mut.ensures.value ∙ set-get_or ps.list (given - 1) c.index_mut.result.now in
          subst (λ (former : Given). IsLaidIn given patch former ps (shown c.match-index_mut.self-inside)) (sym w.patch-is)
          (subst (λ (s : Inside). IsLaidIn given patch patch ps (shown s)) (sym w.self-inside-is)
          (same_list patch given ps (set ps.list (given - 1) c.index_mut.result.now) same
          (not_laid ps given patch (sym read ∙ w.in_default.is) (living_shown given c.args.pid c.args.self.now s patch c.pid.view_is c.self.view_is c.requires.living)))))
    ])

pub returns-after-index_mut-clause-here : goal.returns-after-index_mut-clause-here
returns-after-index_mut-clause-here c = (laid c).here

pub returns-after-index_mut-clause-others : goal.returns-after-index_mut-clause-others
returns-after-index_mut-clause-others c = (laid c).others

pub returns-after-index_mut-clause-former : goal.returns-after-index_mut-clause-former
returns-after-index_mut-clause-former c = (laid c).was

-- there is no such process
absent : (c : goal.After-drop-room-inside-else-number-gt0-2) → IsLaidIn c.args.pid c.args.patch.now c.args.patch.now c.args.self.now c.args.self.now
absent c =
    let s : Inside = c.self.inside in
    let given : ℕ = c.pid.inside.0 in
    let patch : Given = c.args.patch.now in
    let gone : get (numbered (shown s)) given ≡ None = elim c.else-number-gt0.branch [
      | else-number-gt0-via-then-number-gt0+else-number-len w ↦
          (let count : w.len.result ≡ length s.list.items = w.len.ensures ∙ s.list.ok.0 in
          no_process (shown s) given (inr (omega (arith, w.if-number-len.false, count))))
      | else-number-gt0-via-else-number-gt0 w ↦ no_process (shown s) given (inl (omega (arith, w.if-number-gt0.false)))
    ] in
    subst (λ (qs : Processes). IsLaidIn c.args.pid patch patch c.args.self.now qs) c.self.view_is
    (as_shown given c.args.pid c.args.self.now s (shown s) patch patch c.pid.view_is c.self.view_is
    (not_laid (shown s) given patch gone (living_shown given c.args.pid c.args.self.now s patch c.pid.view_is c.self.view_is c.requires.living)))

pub returns-else-number-gt0-clause-here : goal.returns-else-number-gt0-clause-here
returns-else-number-gt0-clause-here c = (absent c).here

pub returns-else-number-gt0-clause-former : goal.returns-else-number-gt0-clause-former
returns-else-number-gt0-clause-former c = (absent c).was
