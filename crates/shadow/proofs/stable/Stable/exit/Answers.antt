use Rattle.std.proofs.Common.{◌≡◌, ◌∙◌, [], List, ℕ, sym, ap, subst}
use Rattle.model.specs.FiniteMap.{values}
use Rattle.model.specs.Changes.{End_process, applied, tidy}
use Rattle.call_laws.specs.Fits.{Fits}
use Rattle.freeing_laws.specs.Sweep.{all_closed}
use Rattle.store.specs.Numbers.{Numbers}
use Rattle.shadow.specs.Claims.{KeepsSame}
use Rattle.shadow.specs.Committed.{Committed}
use Rattle.shadow.specs.Laid.{AreHeld, Frees, IsLessOf}
use Rattle.shadow.specs.Stored.{Processes, Sound, committed_of, state_of}
use Rattle.shadow.proofs.shared.SoundnessLemmas.{same_of, state_is}
use Rattle.shadow.proofs.edits.Exit.{ending_holds, ending_sound, ending_tidy, gave, held_keep, left}
use Rattle.shadow.proofs.stable.Stable.exit.Goals as goal

-- the edit fits what is stored
fits_in : (ps : Processes) (s : Numbers) (v : Committed) (pid : ℕ) (pipes : List ℕ)
    → committed_of ps s ≡ v → Fits [] v.state (End_process pid pipes)
    → Fits [] (state_of ps s) (End_process pid pipes)
fits_in ps s v pid pipes is fits =
    subst (λ (v : Committed). Fits [] v.state (End_process pid pipes)) (sym is) fits

pub remove-table-requires : goal.remove-table-requires
remove-table-requires c =
    (fits_in c.self.inside.processes c.self.inside.store c.args.self.now c.args.pid c.requires.0
    c.self.view_is c.requires.1).alive

pub close_all-requires : goal.close_all-requires
close_all-requires c =
    let ps : Processes = c.self.inside.processes in
    let s : Numbers = c.self.inside.store in
    let held : AreHeld (IsLessOf (gave ps c.args.pid)) s c.let_all_go.new.store =
    subst (λ (ds : List ℕ). AreHeld (IsLessOf ds) s c.let_all_go.new.store)
    (ap (λ m. values m) c.remove-table.ensures.table) c.let_all_go.ensures in (
      left ps c.args.pid,
      ending_holds ps s c.let_all_go.new.store c.args.pid c.requires.0 c.self.invariant
          (fits_in ps s c.args.self.now c.args.pid c.requires.0 c.self.view_is c.requires.1) held,
    )

-- its slots are counted no more
held : (c : goal.After-drop-table-inside-2)
    → AreHeld (IsLessOf (gave c.self.inside.processes c.args.pid))
    c.self.inside.store c.let_all_go.new.store
held c = subst (λ (ds : List ℕ). AreHeld (IsLessOf ds) c.self.inside.store c.let_all_go.new.store)
    (ap (λ m. values m) c.remove-table.ensures.table) c.let_all_go.ensures

-- the processes, of which this one is gone
at_place : (c : goal.After-drop-table-inside-2)
    → left c.self.inside.processes c.args.pid ≡ c.remove-table.new.self
at_place c = sym c.remove-table.ensures.gone

-- what they gave is closed
freed : (c : goal.After-drop-table-inside-2)
    → Frees (all_closed (gave c.self.inside.processes c.args.pid))
    (left c.self.inside.processes c.args.pid) c.let_all_go.new.store c.close_all.new.store
freed c =
    let rs : Processes = left c.self.inside.processes c.args.pid in
    subst (λ (ds : List ℕ). Frees (all_closed ds) rs c.let_all_go.new.store c.close_all.new.store)
    (ap (λ m. values m) c.remove-table.ensures.table)
    (c.close_all.ensures rs
    (ending_holds c.self.inside.processes c.self.inside.store c.let_all_go.new.store c.args.pid
    c.requires.0 c.self.invariant
    (fits_in c.self.inside.processes c.self.inside.store c.args.self.now c.args.pid c.requires.0
    c.self.view_is c.requires.1) (held c)))

pub invariant_of-self : goal.invariant_of-self
invariant_of-self c =
    subst (λ (rs : Processes). Sound rs c.close_all.new.store) (at_place c)
    (ending_sound c.self.inside.processes c.self.inside.store c.let_all_go.new.store c.args.pid
    c.requires.0 c.self.invariant
    (fits_in c.self.inside.processes c.self.inside.store c.args.self.now c.args.pid c.requires.0
    c.self.view_is c.requires.1) (held c) c.close_all.new.store (freed c))

pub returns-clause-state : goal.returns-clause-state
returns-clause-state c = λ pipes.
    let ps : Processes = c.self.inside.processes in
    let rs : Processes = left ps c.args.pid in
    let s : Numbers = c.self.inside.store in
    let last : Numbers = c.close_all.new.store in
    ap (λ (rs : Processes). state_of rs last) (sym (at_place c))
    ∙ state_is ps rs s c.args.self.now c.self.view_is (state_of rs last)
    (λ k. tidy (applied [] (End_process c.args.pid pipes) k))
    (ending_tidy ps s c.let_all_go.new.store c.args.pid c.requires.0 c.self.invariant
    (fits_in ps s c.args.self.now c.args.pid c.requires.0 c.self.view_is c.requires.1)
    (held c) last (freed c) pipes)

pub returns-clause-kept : goal.returns-clause-kept
returns-clause-kept c =
    let ps : Processes = c.self.inside.processes in
    let rs : Processes = left ps c.args.pid in
    let s : Numbers = c.self.inside.store in
    subst (λ (rs : Processes). KeepsSame c.args.self.now (committed_of rs c.close_all.new.store))
    (at_place c)
    (same_of ps rs s c.args.self.now c.self.view_is c.close_all.new.store
    (λ claim. (freed c).kept claim
    ∙ held_keep s c.let_all_go.new.store (held c) claim))
