use Rattle.std.proofs.Common.{[], ◌∷◌, Ok, Err, Some, refl, subst}
use Rattle.std.specs.Prelude.{IsOk, OnOk, Result}
use Rattle.model.specs.State.{Description}
use Rattle.model.specs.Changes.{Make_pipe, at_start, to_read, to_write}
use Rattle.shadow.specs.Claims.{claimed_by_one}
use Rattle.notes.specs.declared.opening.Opening.TheVariants.{New}
use Rattle.shadow.specs.Laid.{IsReopened, IsSlotted}
use Rattle.shadow.proofs.shared.SoundnessLemmas.{less_of}
use Rattle.shadow.proofs.edits.NewPipes.{pipe_to_come, piping_kept, piping_process, piping_sound, piping_state, process_still, reader_comes, writer_still}
use Rattle.shadow.proofs.stable.Stable.make_pipe.Goals as goal

-- what is sure is done
done_so : {A E P : Type 0} (r : Result A E) → IsOk r → OnOk r P → P
done_so (Ok x) sure h = h
done_so (Err e) sure h = absurd cc

pub install_as-requires-clause-coming : goal.install_as-requires-clause-coming
install_as-requires-clause-coming c = pipe_to_come c.self.inside.processes c.self.inside.store c.args.self.now c.self.view_is c.args.pipe
    c.args.reading.1 c.args.writing.1 c.args.pid c.args.reading.0 c.args.writing.0 c.self.invariant
    c.requires.fits c.requires.covers

pub open-requires : goal.open-requires
open-requires c = reader_comes c.self.inside.processes c.self.inside.store c.args.self.now c.self.view_is c.args.pipe
    c.args.reading.1 c.args.writing.1 c.args.pid c.args.reading.0 c.args.writing.0 c.self.invariant
    c.requires.fits c.requires.covers
    _ c.in_ok-bytes.ensures refl refl c.install_as.new.self
    c.install_as.ensures.installed c.install_as.ensures.shown c.install_as.ensures.open

pub open-requires-2 : goal.open-requires-2
open-requires-2 c = writer_still c.self.inside.processes c.self.inside.store c.args.self.now c.self.view_is c.args.pipe
    c.args.reading.1 c.args.writing.1 c.args.pid c.args.reading.0 c.args.writing.0 c.self.invariant
    c.requires.fits c.requires.covers
    _ c.in_ok-bytes.ensures refl refl c.install_as.new.self
    c.install_as.ensures.installed c.install_as.ensures.shown c.install_as.ensures.open c.open.new.store
    (subst (λ (it : Description). IsReopened c.args.reading.1 (New it) c.install_as.new.self c.open.new.store) c.end_of.ensures c.open.ensures)

for_reading : (c : goal.After-unwrap-none-2) → IsReopened c.args.reading.1 (New (at_start c.args.pipe to_read)) c.install_as.new.self c.open.new.store
for_reading c = subst (λ (it : Description). IsReopened c.args.reading.1 (New it) c.install_as.new.self c.open.new.store) c.end_of.ensures c.open.ensures

for_writing : (c : goal.After-unwrap-none-2) → IsReopened c.args.writing.1 (New (at_start c.args.pipe to_write)) c.open.new.store c.open-2.new.store
for_writing c = subst (λ (it : Description). IsReopened c.args.writing.1 (New it) c.open.new.store c.open-2.new.store) c.end_of-2.ensures c.open-2.ensures

-- each of the two slots has its room, so it is given
first : (c : goal.After-unwrap-none-2) → IsSlotted c.args.pid c.args.reading.0
    (Some c.args.reading.1) c.self.inside.processes c.lay_slot.new.processes c.open-2.new.store
    c.lay_slot.new.store
first c = done_so c.lay_slot.result (c.lay_slot.ensures.sure refl) c.lay_slot.ensures.laid

again : (c : goal.After-unwrap-none-2) → IsSlotted c.args.pid c.args.writing.0
    (Some c.args.writing.1) c.lay_slot.new.processes c.lay_slot-2.new.processes
    c.lay_slot.new.store c.lay_slot-2.new.store
again c = done_so c.lay_slot-2.result (c.lay_slot-2.ensures.sure refl) c.lay_slot-2.ensures.laid

pub unwrap-none-requires : goal.unwrap-none-requires
unwrap-none-requires c = c.lay_slot.ensures.sure refl

pub unwrap-none-requires-2 : goal.unwrap-none-requires-2
unwrap-none-requires-2 c = c.lay_slot-2.ensures.sure refl

pub lay_slot-requires-clause-pid : goal.lay_slot-requires-clause-pid
lay_slot-requires-clause-pid c = piping_process c.self.inside.processes c.self.inside.store c.args.self.now c.self.view_is c.args.pipe
    c.args.reading.1 c.args.writing.1 c.args.pid c.args.reading.0 c.args.writing.0 c.self.invariant
    c.requires.fits c.requires.covers

pub lay_slot-requires-2-clause-pid : goal.lay_slot-requires-2-clause-pid
lay_slot-requires-2-clause-pid c = process_still c.self.inside.processes c.self.inside.store c.args.self.now c.self.view_is c.args.pipe
    c.args.reading.1 c.args.writing.1 c.args.pid c.args.reading.0 c.args.writing.0 c.self.invariant
    c.requires.fits c.requires.covers
    c.lay_slot.new.processes c.open-2.new.store c.lay_slot.new.store
    (done_so c.lay_slot.result (c.lay_slot.ensures.sure refl) c.lay_slot.ensures.laid)

pub invariant_of-self : goal.invariant_of-self
invariant_of-self c = piping_sound c.self.inside.processes c.self.inside.store c.args.self.now c.self.view_is c.args.pipe
    c.args.reading.1 c.args.writing.1 c.args.pid c.args.reading.0 c.args.writing.0 c.self.invariant
    c.requires.fits c.requires.covers
    _ c.in_ok-bytes.ensures refl refl c.install_as.new.self
    c.install_as.ensures.installed c.install_as.ensures.shown c.install_as.ensures.open
    c.open.new.store c.open-2.new.store (for_reading c) (for_writing c) c.lay_slot.new.processes
    c.lay_slot-2.new.processes c.lay_slot.new.store c.lay_slot-2.new.store
    (first c) (again c)

pub returns-clause-state : goal.returns-clause-state
returns-clause-state c = piping_state c.self.inside.processes c.self.inside.store c.args.self.now c.self.view_is c.args.pipe
    c.args.reading.1 c.args.writing.1 c.args.pid c.args.reading.0 c.args.writing.0 c.self.invariant
    c.requires.fits c.requires.covers
    _ c.in_ok-bytes.ensures refl refl c.install_as.new.self
    c.install_as.ensures.installed c.install_as.ensures.shown c.install_as.ensures.open
    c.open.new.store c.open-2.new.store (for_reading c) (for_writing c) c.lay_slot.new.processes
    c.lay_slot-2.new.processes c.lay_slot.new.store c.lay_slot-2.new.store
    (first c) (again c)

pub returns-clause-kept : goal.returns-clause-kept
returns-clause-kept c =
    less_of c.self.inside.processes c.lay_slot-2.new.processes c.self.inside.store
    c.args.self.now c.self.view_is c.lay_slot-2.new.store
    (λ claim. claimed_by_one claim (c.args.pipe ∷ c.args.reading.1 ∷ c.args.writing.1 ∷ []) (Make_pipe 0 c.args.pid c.args.reading.0 c.args.writing.0))
    (piping_kept c.self.inside.processes c.self.inside.store c.args.self.now c.self.view_is c.args.pipe
    c.args.reading.1 c.args.writing.1 c.args.pid c.args.reading.0 c.args.writing.0 c.self.invariant
    c.requires.fits c.requires.covers
    _ c.in_ok-bytes.ensures refl refl c.install_as.new.self
    c.install_as.ensures.installed c.install_as.ensures.shown c.install_as.ensures.open
    c.open.new.store c.open-2.new.store (for_reading c) (for_writing c) c.lay_slot.new.processes
    c.lay_slot-2.new.processes c.lay_slot.new.store c.lay_slot-2.new.store
    (first c) (again c))
