use Rattle.std.proofs.Common.{◌≡◌, [], sym, ap, ◌∙◌}
use Rattle.model.specs.FiniteMap.{get}
use Rattle.model.specs.Changes.{Move, applied, tidy}
use Rattle.freeing_laws.specs.Counts.{free_inode}
use Rattle.store.specs.Numbers.{Numbers}
use Rattle.store.specs.Places.{altered, is_coming, listing_at, may_be_named, with_listing, without_name}
use Rattle.shadow.specs.Claims.{claimed_by_one}
use Rattle.shadow.specs.Laid.{Frees}
use Rattle.shadow.specs.Stored.{state_of}
use Rattle.shadow.proofs.shared.SoundnessLemmas.{less_of, state_is}
use Rattle.shadow.proofs.edits.NewInodes.{named_in}
use Rattle.shadow.proofs.edits.LinksAndMoves.{move_fits, move_room, moved_holds, moved_kept, moved_sound, moved_tidy, moving_dir, moving_num, moving_room, over_kept, over_sound, over_tidy}
use Rattle.shadow.proofs.stable.Stable.rename.Goals as goal

pub add_name-requires-clause-room : goal.add_name-requires-clause-room
add_name-requires-clause-room c l at =
    moving_room c.self.inside.processes c.self.inside.store c.args.from c.args.old.now c.args.to c.args.new c.args.num c.args.replaced c.self.invariant (move_fits c.self.inside.processes c.self.inside.store c.args.self.now c.self.view_is c.self.invariant c.args.from c.args.old.now c.args.to c.args.new c.args.num c.args.replaced c.requires.fits c.requires.covers) (move_room c.self.inside.processes c.self.inside.store c.args.self.now c.self.view_is c.self.invariant c.args.from c.args.old.now c.args.to c.args.new c.args.num c.args.replaced c.requires.fits c.requires.covers) l
    (ap (λ (t : Numbers). listing_at t c.args.to) (sym c.remove_name.ensures.removed) ∙ at)

pub add_name-requires-clause-dir : goal.add_name-requires-clause-dir
add_name-requires-clause-dir c = ap (λ (t : Numbers). is_coming (get t.places c.args.to)) c.remove_name.ensures.removed
    ∙ moving_dir c.self.inside.processes c.self.inside.store c.args.from c.args.old.now c.args.to c.args.new c.args.num c.args.replaced c.self.invariant (move_fits c.self.inside.processes c.self.inside.store c.args.self.now c.self.view_is c.self.invariant c.args.from c.args.old.now c.args.to c.args.new c.args.num c.args.replaced c.requires.fits c.requires.covers) (move_room c.self.inside.processes c.self.inside.store c.args.self.now c.self.view_is c.self.invariant c.args.from c.args.old.now c.args.to c.args.new c.args.num c.args.replaced c.requires.fits c.requires.covers)

pub add_name-requires-clause-num : goal.add_name-requires-clause-num
add_name-requires-clause-num c = ap (λ (t : Numbers). may_be_named (get t.places c.args.num)) c.remove_name.ensures.removed
    ∙ moving_num c.self.inside.processes c.self.inside.store c.args.from c.args.old.now c.args.to c.args.new c.args.num c.args.replaced c.self.invariant (move_fits c.self.inside.processes c.self.inside.store c.args.self.now c.self.view_is c.self.invariant c.args.from c.args.old.now c.args.to c.args.new c.args.num c.args.replaced c.requires.fits c.requires.covers)

-- the store with the name moved
over : (c : goal.After-free-arg-1) → c.add_name.new.self ≡ named_in (altered (with_listing (without_name c.args.old.now)) c.self.inside.store c.args.from) c.args.to c.args.new c.args.num
over c = c.add_name.ensures.added ∙ ap (λ (t : Numbers). named_in t c.args.to c.args.new c.args.num) c.remove_name.ensures.removed

alone : (c : goal.In_default) → c.add_name.new.self ≡ named_in (altered (with_listing (without_name c.args.old.now)) c.self.inside.store c.args.from) c.args.to c.args.new c.args.num
alone c = c.add_name.ensures.added ∙ ap (λ (t : Numbers). named_in t c.args.to c.args.new c.args.num) c.remove_name.ensures.removed

pub free-requires : goal.free-requires
free-requires c = (c.self.inside.processes, moved_holds c.self.inside.processes c.self.inside.store c.args.self.now c.self.view_is c.self.invariant c.args.from c.args.old.now c.args.to c.args.new c.args.num c.args.replaced c.requires.fits c.requires.covers c.add_name.new.self (over c))

freed : (c : goal.After-free) → Frees (free_inode c.in-Some.unnamed) c.self.inside.processes c.add_name.new.self c.free.new.store
freed c = c.free.ensures c.self.inside.processes (moved_holds c.self.inside.processes c.self.inside.store c.args.self.now c.self.view_is c.self.invariant c.args.from c.args.old.now c.args.to c.args.new c.args.num c.args.replaced c.requires.fits c.requires.covers c.add_name.new.self (over c.before))

pub invariant_of-self : goal.invariant_of-self
invariant_of-self c = over_sound c.self.inside.processes c.self.inside.store c.args.self.now c.self.view_is c.self.invariant c.args.from c.args.old.now c.args.to c.args.new c.args.num c.args.replaced c.requires.fits c.requires.covers c.add_name.new.self (over c.before) c.in-Some.unnamed (sym c.in-Some.ensures) c.free.new.store (freed c)

pub invariant_of-self-in_default : goal.invariant_of-self-in_default
invariant_of-self-in_default c = moved_sound c.self.inside.processes c.self.inside.store c.args.self.now c.self.view_is c.self.invariant c.args.from c.args.old.now c.args.to c.args.new c.args.num c.args.replaced c.requires.fits c.requires.covers c.add_name.new.self (alone c) (sym c.in_default.ensures)

pub returns-in-Some-clause-state : goal.returns-in-Some-clause-state
returns-in-Some-clause-state c =
    let ps = c.self.inside.processes in
    state_is ps ps c.self.inside.store c.args.self.now c.self.view_is (state_of ps c.free.new.store)
    (λ k. tidy (applied [] (Move c.args.from c.args.old.now c.args.to c.args.new c.args.num c.args.replaced) k))
    (over_tidy c.self.inside.processes c.self.inside.store c.args.self.now c.self.view_is c.self.invariant c.args.from c.args.old.now c.args.to c.args.new c.args.num c.args.replaced c.requires.fits c.requires.covers c.add_name.new.self (over c.before) c.in-Some.unnamed (sym c.in-Some.ensures) c.free.new.store (freed c))

pub returns-in-Some-clause-kept : goal.returns-in-Some-clause-kept
returns-in-Some-clause-kept c =
    let ps = c.self.inside.processes in
    less_of ps ps c.self.inside.store c.args.self.now c.self.view_is c.free.new.store
    (λ claim. claimed_by_one claim [] (Move c.args.from c.args.old.now c.args.to c.args.new c.args.num c.args.replaced))
    (over_kept c.self.inside.processes c.self.inside.store c.args.self.now c.self.view_is c.self.invariant c.args.from c.args.old.now c.args.to c.args.new c.args.num c.args.replaced c.requires.fits c.requires.covers c.add_name.new.self (over c.before) c.in-Some.unnamed (sym c.in-Some.ensures) c.free.new.store (freed c))

pub returns-in_default-clause-state : goal.returns-in_default-clause-state
returns-in_default-clause-state c =
    let ps = c.self.inside.processes in
    state_is ps ps c.self.inside.store c.args.self.now c.self.view_is (state_of ps c.add_name.new.self)
    (λ k. tidy (applied [] (Move c.args.from c.args.old.now c.args.to c.args.new c.args.num c.args.replaced) k))
    (moved_tidy c.self.inside.processes c.self.inside.store c.args.self.now c.self.view_is c.self.invariant c.args.from c.args.old.now c.args.to c.args.new c.args.num c.args.replaced c.requires.fits c.requires.covers c.add_name.new.self (alone c) (sym c.in_default.ensures))

pub returns-in_default-clause-kept : goal.returns-in_default-clause-kept
returns-in_default-clause-kept c =
    let ps = c.self.inside.processes in
    less_of ps ps c.self.inside.store c.args.self.now c.self.view_is c.add_name.new.self
    (λ claim. claimed_by_one claim [] (Move c.args.from c.args.old.now c.args.to c.args.new c.args.num c.args.replaced))
    (moved_kept c.self.inside.processes c.self.inside.store c.args.self.now c.self.view_is c.self.invariant c.args.from c.args.old.now c.args.to c.args.new c.args.num c.args.replaced c.requires.fits c.requires.covers c.add_name.new.self (alone c))
