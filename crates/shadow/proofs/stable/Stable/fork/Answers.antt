use Rattle.std.proofs.Common.{◌≡◌, ◌+◌, ◌∙◌, ℕ, [], Some, suc, length, sym, ap, subst, arith}
use Rattle.model.specs.FiniteMap.{get}
use Rattle.model.specs.State.{Process, mapped}
use Rattle.model.specs.Changes.{New_process, applied, process_of}
use Rattle.call_laws.specs.Fits.{Fits}
use Rattle.call_laws.proofs.Laws.{not_none}
use Rattle.store.specs.Numbers.{Numbers}
use Rattle.shadow.specs.Committed.{Committed}
use Rattle.shadow.specs.Laid.{IsReslotted}
use Rattle.shadow.specs.Stored.{Processes, committed_of, numbered, state_of}
use Rattle.shadow.proofs.shared.SoundnessLemmas.{state_is}
use Rattle.shadow.proofs.edits.Fork.{forked, forked_sound, grown, grown_here}
use Rattle.shadow.proofs.stable.Stable.fork.Goals as goal

-- the next number
next : (ps : Processes) (s : Numbers) (v : Committed) (made : ℕ) → committed_of ps s ≡ v
    → made ≡ v.state.made → made + 1 ≡ suc (length ps.list)
next ps s v made is e =
    let same : made ≡ length ps.list = e ∙ ap (λ (v : Committed). v.state.made) (sym is) in omega arith

pub lay_table-requires-clause-living : goal.lay_table-requires-clause-living
lay_table-requires-clause-living c = λ some none.
    let ps : Processes = c.self.inside.processes in
    let new : Process = record {
      table = c.new-table.result;
      priority = c.priority_of-priority.result;
    } in
    not_none new (sym (grown_here ps new)
    ∙ ap (get (numbered (grown ps new)))
    (sym (next ps c.self.inside.store c.args.self.now c.made.result c.self.view_is c.made.ensures))
    ∙ ap (λ (qs : Processes). get (numbered qs) (c.made.result + 1))
    (sym c.in_ok-push.ensures.ok) ∙ none)

-- what is noted is what the parent has open, for each of which there is room
pub lay_table-requires-clause-room : goal.lay_table-requires-clause-room
lay_table-requires-clause-room c = λ f some.
    c.in_ok-room.ensures f (λ none. some (c.in_ok-opened.ensures f ∙ ap (mapped Some) none))

-- the child, before it has descriptors
abbrev new : goal.After-drop-none-inside-3 → Process
new c = record { table = c.new-table.result; priority = c.priority_of-priority.result }

laid : (c : goal.After-drop-none-inside-3)
    → IsReslotted (suc (length c.self.inside.processes.list)) c.in_ok-opened.opened
    c.lay_table.new.patch (grown c.self.inside.processes (new c))
    c.lay_table.new.processes c.self.inside.store c.lay_table.new.store
laid c =
    let ps : Processes = c.self.inside.processes in
    let s : Numbers = c.self.inside.store in
    let qs : Processes = c.lay_table.new.processes in
    let t : Numbers = c.lay_table.new.store in
    subst (λ (n : ℕ). IsReslotted n c.in_ok-opened.opened c.lay_table.new.patch
    (grown ps (new c)) qs s t)
    (next ps s c.args.self.now c.made.result c.self.view_is c.made.ensures)
    (subst (λ (rs : Processes). IsReslotted (c.made.result + 1) c.in_ok-opened.opened
    c.lay_table.new.patch rs qs s t) c.in_ok-push.ensures.ok c.lay_table.ensures)

fits : (c : goal.After-drop-none-inside-3)
    → Fits [] (state_of c.self.inside.processes c.self.inside.store)
    (New_process (suc (length c.self.inside.processes.list)) c.args.parent c.requires.fits.0)
fits c = subst (λ (v : Committed).
    Fits [] v.state (New_process (suc v.state.made) c.args.parent c.requires.fits.0))
    (sym c.self.view_is) c.requires.fits.1

alike : (c : goal.After-drop-none-inside-3) → c.priority_of-priority.result
    ≡ (process_of (state_of c.self.inside.processes c.self.inside.store) c.args.parent).priority
alike c = c.priority_of-priority.ensures
    ∙ ap (λ (v : Committed). (process_of v.state c.args.parent).priority) (sym c.self.view_is)

noted : (c : goal.After-drop-none-inside-3) (f : ℕ) → get c.in_ok-opened.opened f
    ≡ mapped Some (get (process_of
    (state_of c.self.inside.processes c.self.inside.store) c.args.parent).table f)
noted c f = c.in_ok-opened.ensures f
    ∙ ap (λ m. mapped Some (get m f)) (c.table-parents.ensures
    ∙ ap (λ (v : Committed). (process_of v.state c.args.parent).table) (sym c.self.view_is))

pub invariant_of-self-2 : goal.invariant_of-self-2
invariant_of-self-2 c =
    forked_sound c.self.inside.processes c.lay_table.new.processes
    c.self.inside.store c.lay_table.new.store c.args.parent c.requires.fits.0 c.self.invariant
    (fits c) (new c) c.new-table.ensures (alike c) c.in_ok-opened.opened c.lay_table.new.patch
    (noted c) (laid c)

pub returns-clause-state : goal.returns-clause-state
returns-clause-state c = λ pipes.
    let ps : Processes = c.self.inside.processes in
    let qs : Processes = c.lay_table.new.processes in
    let s : Numbers = c.self.inside.store in
    let t : Numbers = c.lay_table.new.store in
    state_is ps qs s c.args.self.now c.self.view_is (state_of qs t)
    (λ k. applied [] (New_process (suc k.made) c.args.parent pipes) k)
    (forked ps qs s t c.args.parent c.requires.fits.0 c.self.invariant
    (fits c) (new c) c.new-table.ensures (alike c) c.in_ok-opened.opened c.lay_table.new.patch
    (noted c) (laid c) pipes)
