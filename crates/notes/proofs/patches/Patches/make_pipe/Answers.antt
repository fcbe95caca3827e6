use Rattle.std.proofs.Common.{◌≡◌, ◌≢◌, ◌∙◌, ℕ, [], ◌∷◌, None, Some, sym, subst}
use Rattle.model.specs.State.{Description}
use Rattle.model.specs.Changes.{Make_pipe, at_start, to_read, to_write}
use Rattle.notes.specs.Notes.{At, IsPiped, SamePatches}
use Rattle.notes.specs.Openings.{AtOpening, AtSlots, IsOpened}
use Rattle.notes.specs.Patches.{Patches, kept_at}
use Rattle.notes.specs.Steps.{TakesIn}
use Rattle.notes.proofs.OffsetEdits.{piping_takes}
use Rattle.notes.proofs.InodeNotes.{same_then_takes, with_places}
use Rattle.notes.proofs.PipeEdits.{piping_at}
use Rattle.notes.proofs.Outcomes.{on_err}
use Rattle.notes.proofs.patches.Patches.make_pipe.Goals as goal

pub returns-clause-ok : goal.returns-clause-ok
returns-clause-ok c =
    let was = c.self.inside in
    let later = c.self-2.inside in
    let p : ℕ = c.args.pipe in
    let r : ℕ = c.args.reading.1 in
    let w : ℕ = c.args.writing.1 in
    let old : Patches = record { inodes = was.inodes; rights = was.rights; openings = was.openings; slots = was.slots; unnamed_inodes = was.unnamed_inodes.items } in
    let mid : Patches = record { inodes = later.inodes; rights = later.rights; openings = later.openings; slots = later.slots; unnamed_inodes = later.unnamed_inodes.items } in
    let one : Patches = c.note_end.new.self in
    let new : Patches = c.note_end-2.new.self in
    let edit = Make_pipe 0 c.args.pid c.args.reading.0 c.args.writing.0 in
    let same : SamePatches old mid = subst (SamePatches old) (sym c.self-2.view_is) (with_places old c.make_place.new.self c.make_ends.new.self c.make_place.ensures.same c.make_ends.ensures.inodes c.make_ends.ensures.rights c.make_ends.ensures.unnamed_inodes c.make_ends.ensures.openings c.make_ends.ensures.slots) in
    let inodes : At p (IsPiped r w) mid.inodes new.inodes = subst (At p (IsPiped r w) mid.inodes) (sym (c.note_end-2.ensures.inodes ∙ c.note_end.ensures.inodes)) c.note_pipe.ensures in
    let first : AtOpening r (IsOpened (at_start p to_read)) mid.openings one.openings = subst (λ (it : Description). AtOpening r (IsOpened it) mid.openings one.openings) c.end_of.ensures c.note_end.ensures.openings in
    let second : AtOpening w (IsOpened (at_start p to_write)) one.openings new.openings = subst (λ (it : Description). AtOpening w (IsOpened it) one.openings new.openings) c.end_of-2.ensures c.note_end-2.ensures.openings in
    let slots : AtSlots c.args.pid c.args.reading.0 (Some r) mid.slots one.slots = subst (λ f. AtSlots c.args.pid f (Some r) mid.slots one.slots) c.in_ok-to_read.ensures c.note_end.ensures.slots in
    let others : AtSlots c.args.pid c.args.writing.0 (Some w) one.slots new.slots = subst (λ f. AtSlots c.args.pid f (Some w) one.slots new.slots) c.in_ok-to_write.ensures c.note_end-2.ensures.slots in
    subst (λ (q : Patches). TakesIn (p ∷ r ∷ w ∷ []) edit q new) c.self.view_is
    (same_then_takes (p ∷ r ∷ w ∷ []) edit old mid new same
    (piping_takes (p ∷ r ∷ w ∷ []) c.args.pid c.args.reading.0 c.args.writing.0 mid new one.openings one.slots (piping_at (p ∷ r ∷ w ∷ []) 0 mid.inodes new.inodes inodes)
    (first, second) slots others (c.note_end-2.ensures.rights ∙ c.note_end.ensures.rights) (c.note_end-2.ensures.unnamed_inodes ∙ c.note_end.ensures.unnamed_inodes)))

pub returns-in_err-make_ends-clause-err : goal.returns-in_err-make_ends-clause-err
returns-in_err-make_ends-clause-err c =
    let was = c.self.inside in
    let old : Patches = record { inodes = was.inodes; rights = was.rights; openings = was.openings; slots = was.slots; unnamed_inodes = was.unnamed_inodes.items } in
    on_err c.from_residual-in_err-make_ends.result (subst (λ (p : Patches). SamePatches p c.make_ends.new.self) c.self.view_is
    (with_places old c.make_place.new.self c.make_ends.new.self c.make_place.ensures.same c.make_ends.ensures.inodes c.make_ends.ensures.rights c.make_ends.ensures.unnamed_inodes c.make_ends.ensures.openings c.make_ends.ensures.slots))

-- places that were there
opening_was : (p q : Patches) → p ≡ q → (d : ℕ) → kept_at q.openings d ≢ None → kept_at p.openings d ≢ None
opening_was p q same d = subst (λ (p : Patches). kept_at p.openings d ≢ None) (sym same)

slot_was : (p q : Patches) → p ≡ q → (pid : ℕ) → kept_at q.slots pid ≢ None → kept_at p.slots pid ≢ None
slot_was p q same pid = subst (λ (p : Patches). kept_at p.slots pid ≢ None) (sym same)

pub returns-in_err-make_ends-clause-openings : goal.returns-in_err-make_ends-clause-openings
returns-in_err-make_ends-clause-openings c = λ d some. c.make_ends.ensures.openings.places d (opening_was _ _ c.self.view_is d some)

pub returns-in_err-make_ends-clause-slots : goal.returns-in_err-make_ends-clause-slots
returns-in_err-make_ends-clause-slots c = λ pid some. c.make_ends.ensures.slots.places pid (slot_was _ _ c.self.view_is pid some)

pub note_end-requires-2 : goal.note_end-requires-2
note_end-requires-2 c = record {
  places = (
    c.note_end.ensures.openings.places c.args.writing.1 (opening_was _ _ c.self-2.view_is c.args.writing.1 c.in_ok-make_ends.ensures.ok.1),
    c.note_end.ensures.slots.places c.args.pid (slot_was _ _ c.self-2.view_is c.args.pid c.in_ok-make_ends.ensures.ok.2),
  );
}

pub returns-clause-openings : goal.returns-clause-openings
returns-clause-openings c = λ d some.
    c.note_end-2.ensures.openings.places d (c.note_end.ensures.openings.places d (opening_was _ _ c.self-2.view_is d
    (c.make_ends.ensures.openings.places d (opening_was _ _ c.self.view_is d some))))

pub returns-clause-slots : goal.returns-clause-slots
returns-clause-slots c = λ pid some.
    c.note_end-2.ensures.slots.places pid (c.note_end.ensures.slots.places pid (slot_was _ _ c.self-2.view_is pid
    (c.make_ends.ensures.slots.places pid (slot_was _ _ c.self.view_is pid some))))
