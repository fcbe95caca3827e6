use Rattle.std.proofs.Common.{None, Some, sym, subst, ◌∙◌}
use Rattle.call_laws.specs.Fits.{IsAlive}
use Rattle.freeing_laws.specs.Sweep.{closed}
use Rattle.shadow.specs.Committed.{Committed}
use Rattle.shadow.specs.Laid.{Frees}
use Rattle.shadow.proofs.shared.SoundnessLemmas.{same_of}
use Rattle.shadow.proofs.edits.SlotChanges.{frees_nothing, slotted_holds, slotted_keeps}
use Rattle.shadow.proofs.edits.SlotChanges.{slotted_sound, slotted_tidy, slotting_alive}
use Rattle.shadow.proofs.stable.Stable.reslot.Goals as goal

pub lay_slot-requires-clause-pid : goal.lay_slot-requires-clause-pid
lay_slot-requires-clause-pid c =
    subst (λ (v : Committed). IsAlive v.state c.args.pid) (sym c.self.view_is)
    (slotting_alive c.args.given c.args.self.now.state c.args.pid c.args.fd c.requires.fits.0
    c.requires.fits.1)

pub lay_slot-requires-clause-fd : goal.lay_slot-requires-clause-fd
lay_slot-requires-clause-fd c = c.requires.low

pub close-requires : goal.close-requires
close-requires c =
    let ps = c.self.inside.processes in let qs = c.lay_slot.new.processes
    in let s = c.self.inside.store in let t = c.lay_slot.new.store in (
      qs,
      slotted_holds ps qs s t c.args.pid c.args.fd c.args.given c.requires.fits.0 c.self.invariant
          c.in_ok-former.ensures.laid c.args.self.now c.self.view_is c.requires.fits.1
          c.in_ok-former.former c.in_ok-former.ensures.former,
    )

-- what the slot gave goes
closes : (c : goal.After-close)
    → Frees (closed c.in-Some.description) c.lay_slot.new.processes
    c.lay_slot.new.store c.close.new.store
closes c =
    let ps = c.self.inside.processes in let qs = c.lay_slot.new.processes
    in let s = c.self.inside.store in let t = c.lay_slot.new.store in
    c.close.ensures qs (slotted_holds ps qs s t c.args.pid c.args.fd c.args.given c.requires.fits.0
    c.self.invariant c.in_ok-former.ensures.laid c.args.self.now c.self.view_is
    c.requires.fits.1
    c.in_ok-former.former c.in_ok-former.ensures.former)

pub invariant_of-self-in-Some : goal.invariant_of-self-in-Some
invariant_of-self-in-Some c =
    let ps = c.self.inside.processes in let qs = c.lay_slot.new.processes
    in let s = c.self.inside.store in let t = c.lay_slot.new.store in
    slotted_sound ps qs s t c.args.pid c.args.fd c.args.given c.requires.fits.0 c.self.invariant
    c.in_ok-former.ensures.laid c.args.self.now c.self.view_is c.requires.fits.1
    (Some c.in-Some.description) (sym c.in-Some.is ∙ c.in_ok-former.ensures.former)
    c.close.new.store (closes c)

pub invariant_of-self-in-None : goal.invariant_of-self-in-None
invariant_of-self-in-None c =
    let ps = c.self.inside.processes in let qs = c.lay_slot.new.processes
    in let s = c.self.inside.store in let t = c.lay_slot.new.store in
    slotted_sound ps qs s t c.args.pid c.args.fd c.args.given c.requires.fits.0 c.self.invariant
    c.in_ok-former.ensures.laid c.args.self.now c.self.view_is c.requires.fits.1
    None (sym c.in-None.is ∙ c.in_ok-former.ensures.former) t
    (frees_nothing qs t (slotted_holds ps qs s t c.args.pid c.args.fd c.args.given c.requires.fits.0
    c.self.invariant c.in_ok-former.ensures.laid c.args.self.now c.self.view_is
    c.requires.fits.1
    c.in_ok-former.former c.in_ok-former.ensures.former))

pub returns-in-Some-clause-state : goal.returns-in-Some-clause-state
returns-in-Some-clause-state c = λ pipes fits.
    let ps = c.self.inside.processes in let qs = c.lay_slot.new.processes
    in let s = c.self.inside.store in let t = c.lay_slot.new.store in
    slotted_tidy ps qs s t c.args.pid c.args.fd c.args.given pipes c.self.invariant
    c.in_ok-former.ensures.laid c.args.self.now c.self.view_is fits
    (Some c.in-Some.description) (sym c.in-Some.is ∙ c.in_ok-former.ensures.former)
    c.close.new.store (closes c)

pub returns-in-Some-clause-kept : goal.returns-in-Some-clause-kept
returns-in-Some-clause-kept c =
    let ps = c.self.inside.processes in let qs = c.lay_slot.new.processes
    in let s = c.self.inside.store in
    same_of ps qs s c.args.self.now c.self.view_is c.close.new.store
    (λ claim. (closes c).kept claim
    ∙ slotted_keeps ps qs s c.lay_slot.new.store c.args.pid c.args.fd c.args.given
    c.in_ok-former.ensures.laid claim)

pub returns-in-None-clause-state : goal.returns-in-None-clause-state
returns-in-None-clause-state c = λ pipes fits.
    let ps = c.self.inside.processes in let qs = c.lay_slot.new.processes
    in let s = c.self.inside.store in let t = c.lay_slot.new.store in
    slotted_tidy ps qs s t c.args.pid c.args.fd c.args.given pipes c.self.invariant
    c.in_ok-former.ensures.laid c.args.self.now c.self.view_is fits
    None (sym c.in-None.is ∙ c.in_ok-former.ensures.former) t
    (frees_nothing qs t (slotted_holds ps qs s t c.args.pid c.args.fd c.args.given pipes c.self.invariant
    c.in_ok-former.ensures.laid c.args.self.now c.self.view_is fits
    c.in_ok-former.former c.in_ok-former.ensures.former))

pub returns-in-None-clause-kept : goal.returns-in-None-clause-kept
returns-in-None-clause-kept c =
    let ps = c.self.inside.processes in let qs = c.lay_slot.new.processes
    in let s = c.self.inside.store in let t = c.lay_slot.new.store in
    same_of ps qs s c.args.self.now c.self.view_is t
    (slotted_keeps ps qs s t c.args.pid c.args.fd c.args.given c.in_ok-former.ensures.laid)
