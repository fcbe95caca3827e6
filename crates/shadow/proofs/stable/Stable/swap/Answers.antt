use Rattle.std.proofs.Common.{◌≡◌, ◌+◌, [], sym, ap, subst, ◌∙◌}
use Rattle.model.specs.FiniteMap.{get}
use Rattle.model.specs.Changes.{Swap, applied, tidy}
use Rattle.store.specs.Numbers.{Numbers}
use Rattle.store.specs.Places.{is_coming, listing_at, may_be_named}
use Rattle.shadow.specs.Claims.{claimed_by_one}
use Rattle.shadow.specs.Laid.{kept_in}
use Rattle.shadow.specs.Stored.{Sound, state_of}
use Rattle.shadow.proofs.shared.SoundnessLemmas.{less_of, state_is}
use Rattle.shadow.proofs.edits.NewInodes.{named_in}
use Rattle.shadow.proofs.edits.Exchanges.{first_dir, first_num, first_room, second_dir, second_num, second_room, swap_fits, swap_rooms, swapping_kept, swapping_sound, swapping_tidy}
use Rattle.shadow.proofs.stable.Stable.swap.Goals as goal

pub add_name-requires-clause-room : goal.add_name-requires-clause-room
add_name-requires-clause-room c = first_room c.self.inside.processes c.self.inside.store c.args.first.0 c.args.first.1 c.args.first.2 c.args.second.0 c.args.second.1 c.args.second.2 c.self.invariant (swap_fits c.self.inside.processes c.self.inside.store c.args.self.now c.self.view_is c.args.first.0 c.args.first.1 c.args.first.2 c.args.second.0 c.args.second.1 c.args.second.2 c.requires.fits) (swap_rooms c.self.inside.processes c.self.inside.store c.args.self.now c.self.view_is c.args.first.0 c.args.first.1 c.args.first.2 c.args.second.0 c.args.second.1 c.args.second.2 c.requires.covers)

pub add_name-requires-clause-dir : goal.add_name-requires-clause-dir
add_name-requires-clause-dir c = first_dir c.self.inside.processes c.self.inside.store c.args.first.0 c.args.first.1 c.args.first.2 c.args.second.0 c.args.second.1 c.args.second.2 c.self.invariant (swap_fits c.self.inside.processes c.self.inside.store c.args.self.now c.self.view_is c.args.first.0 c.args.first.1 c.args.first.2 c.args.second.0 c.args.second.1 c.args.second.2 c.requires.fits) (swap_rooms c.self.inside.processes c.self.inside.store c.args.self.now c.self.view_is c.args.first.0 c.args.first.1 c.args.first.2 c.args.second.0 c.args.second.1 c.args.second.2 c.requires.covers)

pub add_name-requires-clause-num : goal.add_name-requires-clause-num
add_name-requires-clause-num c = first_num c.self.inside.processes c.self.inside.store c.args.first.0 c.args.first.1 c.args.first.2 c.args.second.0 c.args.second.1 c.args.second.2 c.self.invariant (swap_fits c.self.inside.processes c.self.inside.store c.args.self.now c.self.view_is c.args.first.0 c.args.first.1 c.args.first.2 c.args.second.0 c.args.second.1 c.args.second.2 c.requires.fits)

pub add_name-requires-2-clause-room : goal.add_name-requires-2-clause-room
add_name-requires-2-clause-room c l at =
    second_room c.self.inside.processes c.self.inside.store c.args.first.0 c.args.first.1 c.args.first.2 c.args.second.0 c.args.second.1 c.args.second.2 c.self.invariant (swap_fits c.self.inside.processes c.self.inside.store c.args.self.now c.self.view_is c.args.first.0 c.args.first.1 c.args.first.2 c.args.second.0 c.args.second.1 c.args.second.2 c.requires.fits) (swap_rooms c.self.inside.processes c.self.inside.store c.args.self.now c.self.view_is c.args.first.0 c.args.first.1 c.args.first.2 c.args.second.0 c.args.second.1 c.args.second.2 c.requires.covers) l
    (ap (λ (t : Numbers). listing_at t c.args.second.0) (sym c.add_name.ensures.added) ∙ at)

pub add_name-requires-2-clause-dir : goal.add_name-requires-2-clause-dir
add_name-requires-2-clause-dir c = ap (λ (t : Numbers). is_coming (get t.places c.args.second.0)) c.add_name.ensures.added
    ∙ second_dir c.self.inside.processes c.self.inside.store c.args.first.0 c.args.first.1 c.args.first.2 c.args.second.0 c.args.second.1 c.args.second.2 c.self.invariant (swap_fits c.self.inside.processes c.self.inside.store c.args.self.now c.self.view_is c.args.first.0 c.args.first.1 c.args.first.2 c.args.second.0 c.args.second.1 c.args.second.2 c.requires.fits) (swap_rooms c.self.inside.processes c.self.inside.store c.args.self.now c.self.view_is c.args.first.0 c.args.first.1 c.args.first.2 c.args.second.0 c.args.second.1 c.args.second.2 c.requires.covers)

pub add_name-requires-2-clause-num : goal.add_name-requires-2-clause-num
add_name-requires-2-clause-num c = ap (λ (t : Numbers). may_be_named (get t.places c.args.first.2)) c.add_name.ensures.added
    ∙ second_num c.self.inside.processes c.self.inside.store c.args.first.0 c.args.first.1 c.args.first.2 c.args.second.0 c.args.second.1 c.args.second.2 c.self.invariant (swap_fits c.self.inside.processes c.self.inside.store c.args.self.now c.self.view_is c.args.first.0 c.args.first.1 c.args.first.2 c.args.second.0 c.args.second.1 c.args.second.2 c.requires.fits)

-- the store with both names exchanged
both : (c : goal.After-add_name-2) → c.add_name-2.new.self ≡ named_in (named_in c.self.inside.store c.args.first.0 c.args.first.1 c.args.second.2) c.args.second.0 c.args.second.1 c.args.first.2
both c = c.add_name-2.ensures.added ∙ ap (λ (t : Numbers). named_in t c.args.second.0 c.args.second.1 c.args.first.2) c.add_name.ensures.added

pub invariant_of-self : goal.invariant_of-self
invariant_of-self c =
    subst (Sound c.self.inside.processes) (sym (both c))
    (swapping_sound c.self.inside.processes c.self.inside.store c.args.first.0 c.args.first.1 c.args.first.2 c.args.second.0 c.args.second.1 c.args.second.2 c.self.invariant (swap_fits c.self.inside.processes c.self.inside.store c.args.self.now c.self.view_is c.args.first.0 c.args.first.1 c.args.first.2 c.args.second.0 c.args.second.1 c.args.second.2 c.requires.fits))

pub returns-clause-state : goal.returns-clause-state
returns-clause-state c =
    let ps = c.self.inside.processes in let s = c.self.inside.store in
    state_is ps ps s c.args.self.now c.self.view_is (state_of ps c.add_name-2.new.self)
    (λ k. tidy (applied [] (Swap c.args.first.0 c.args.first.1 c.args.first.2 c.args.second.0 c.args.second.1 c.args.second.2) k))
    (ap (state_of ps) (both c) ∙ swapping_tidy ps s c.args.first.0 c.args.first.1 c.args.first.2 c.args.second.0 c.args.second.1 c.args.second.2 c.self.invariant (swap_fits c.self.inside.processes c.self.inside.store c.args.self.now c.self.view_is c.args.first.0 c.args.first.1 c.args.first.2 c.args.second.0 c.args.second.1 c.args.second.2 c.requires.fits))

pub returns-clause-kept : goal.returns-clause-kept
returns-clause-kept c =
    let ps = c.self.inside.processes in let s = c.self.inside.store in
    less_of ps ps s c.args.self.now c.self.view_is c.add_name-2.new.self
    (λ claim. claimed_by_one claim [] (Swap c.args.first.0 c.args.first.1 c.args.first.2 c.args.second.0 c.args.second.1 c.args.second.2))
    (λ claim. ap (λ (t : Numbers). kept_in t claim + claimed_by_one claim [] (Swap c.args.first.0 c.args.first.1 c.args.first.2 c.args.second.0 c.args.second.1 c.args.second.2)) (both c)
    ∙ swapping_kept ps s c.args.first.0 c.args.first.1 c.args.first.2 c.args.second.0 c.args.second.1 c.args.second.2 c.self.invariant (swap_fits c.self.inside.processes c.self.inside.store c.args.self.now c.self.view_is c.args.first.0 c.args.first.1 c.args.first.2 c.args.second.0 c.args.second.1 c.args.second.2 c.requires.fits) (swap_rooms c.self.inside.processes c.self.inside.store c.args.self.now c.self.view_is c.args.first.0 c.args.first.1 c.args.first.2 c.args.second.0 c.args.second.1 c.args.second.2 c.requires.covers) claim)
