use Rattle.std.proofs.Common.{◌≡◌, ◌<◌, ◌+◌, [], sym, ap, subst, ◌∙◌}
use Rattle.model.specs.Changes.{Name_file, applied, tidy}
use Rattle.call_laws.specs.Fits.{Fits}
use Rattle.store.specs.Numbers.{Numbers}
use Rattle.shadow.specs.Claims.{Room, claimed_by_one}
use Rattle.shadow.specs.Committed.{Committed}
use Rattle.shadow.specs.Laid.{kept_in}
use Rattle.shadow.specs.Stored.{Sound, state_of}
use Rattle.shadow.proofs.shared.SoundnessLemmas.{less_of, sound_after, state_is, tidy_after}
use Rattle.shadow.proofs.freeing.SoundAfterFreeing.{IsMade}
use Rattle.shadow.proofs.edits.NewInodes.{named_in}
use Rattle.shadow.proofs.edits.LinksAndMoves.{link_claims, linking_dir, linking_kept, linking_made, linking_num, linking_room, room_here}
use Rattle.shadow.proofs.stable.Stable.link.Goals as goal

-- the edit fits what is stored, and there is room for its name
fits : (c : goal.After-add_name-arg-1)
    → Fits [] (state_of c.self.inside.processes c.self.inside.store)
    (Name_file c.args.parent c.args.name c.args.file)
fits c = subst (λ (v : Committed). Fits [] v.state (Name_file c.args.parent c.args.name c.args.file)) (sym c.self.view_is) c.requires.fits

some_room : (c : goal.After-add_name-arg-1) → 0 < kept_in c.self.inside.store (Room c.args.parent)
some_room c = room_here c.self.inside.processes c.self.inside.store c.args.self.now c.self.view_is c.args.parent (Name_file c.args.parent c.args.name c.args.file)
    (link_claims c.args.parent c.args.file c.args.name) c.requires.covers

made : (c : goal.After-add_name-arg-1)
    → IsMade c.self.inside.processes c.self.inside.processes c.self.inside.store
    (named_in c.self.inside.store c.args.parent c.args.name c.args.file) []
    (Name_file c.args.parent c.args.name c.args.file)
made c = linking_made c.self.inside.processes c.self.inside.store c.args.parent c.args.name c.args.file c.self.invariant (fits c)

now_state : (c : goal.After-add_name-arg-1)
    → state_of c.self.inside.processes (named_in c.self.inside.store c.args.parent c.args.name c.args.file)
    ≡ tidy (applied [] (Name_file c.args.parent c.args.name c.args.file) (state_of c.self.inside.processes c.self.inside.store))
now_state c = (made c).state
    ∙ sym (tidy_after c.self.inside.processes c.self.inside.store [] (Name_file c.args.parent c.args.name c.args.file) c.self.invariant (fits c) Rattle.std.proofs.Common.refl)

pub add_name-requires-clause-room : goal.add_name-requires-clause-room
add_name-requires-clause-room c = linking_room c.self.inside.processes c.self.inside.store c.args.parent c.args.name c.args.file c.self.invariant (fits c) (some_room c)

pub add_name-requires-clause-dir : goal.add_name-requires-clause-dir
add_name-requires-clause-dir c = linking_dir c.self.inside.processes c.self.inside.store c.args.parent c.args.name c.args.file c.self.invariant (fits c) (some_room c)

pub add_name-requires-clause-num : goal.add_name-requires-clause-num
add_name-requires-clause-num c = linking_num c.self.inside.processes c.self.inside.store c.args.parent c.args.name c.args.file c.self.invariant (fits c)

pub invariant_of-self : goal.invariant_of-self
invariant_of-self c =
    let ps = c.self.inside.processes in let s = c.self.inside.store in
    subst (Sound ps) (sym c.add_name.ensures.added)
    (sound_after ps ps s (named_in s c.args.parent c.args.name c.args.file) [] (Name_file c.args.parent c.args.name c.args.file) c.self.invariant (fits c.before)
    (now_state c.before) (made c.before).root (made c.before).staged (made c.before).counted)

pub returns-clause-state : goal.returns-clause-state
returns-clause-state c =
    let ps = c.self.inside.processes in let s = c.self.inside.store in
    state_is ps ps s c.args.self.now c.self.view_is (state_of ps c.add_name.new.self)
    (λ k. tidy (applied [] (Name_file c.args.parent c.args.name c.args.file) k))
    (ap (state_of ps) c.add_name.ensures.added ∙ now_state c.before)

pub returns-clause-kept : goal.returns-clause-kept
returns-clause-kept c =
    let ps = c.self.inside.processes in let s = c.self.inside.store in
    less_of ps ps s c.args.self.now c.self.view_is c.add_name.new.self
    (λ claim. claimed_by_one claim [] (Name_file c.args.parent c.args.name c.args.file))
    (λ claim. ap (λ (t : Numbers). kept_in t claim + claimed_by_one claim [] (Name_file c.args.parent c.args.name c.args.file)) c.add_name.ensures.added
    ∙ linking_kept ps s c.args.parent c.args.name c.args.file c.self.invariant (fits c.before) (some_room c.before) claim)
