use Rattle.std.proofs.Common.{◌≡◌, ℕ, [], ◌∷◌, sym, subst, ap, ◌∙◌}
use Rattle.model.specs.FiniteMap.{get}
use Rattle.model.specs.Changes.{Make_fixed, applied, tidy}
use Rattle.store.specs.Numbers.{Numbers, present}
use Rattle.store.specs.declared.Object.TheVariants.{Fixed}
use Rattle.store.proofs.Laws.{with_place}
use Rattle.store.specs.Places.{is_coming, listing_at, may_be_named}
use Rattle.shadow.specs.Claims.{Claim, KeepsMore, claimed_by_one}
use Rattle.shadow.specs.Stored.{Sound, committed_of, state_of}
use Rattle.shadow.proofs.edits.NewInodes.{Makes, fixed_to_come, makes_fixed, named_in}
use Rattle.shadow.proofs.shared.SoundnessLemmas.{less_of, state_is}
use Rattle.shadow.proofs.stable.Stable.make_fixed.Goals as goal

-- before the name is there, and after it
makes : (c : goal.After-add_name-arg-1) → Makes c.self.inside.processes c.self.inside.store (with_place c.self.inside.store c.args.num (present (Fixed c.args.fixed))) c.args.parent c.args.name c.args.num (Make_fixed c.args.parent c.args.name c.args.fixed 0)
makes c = makes_fixed c.self.inside.processes c.self.inside.store c.args.self.now c.self.view_is c.args.parent c.args.name c.args.num c.self.invariant c.args.fixed c.requires.fits c.requires.covers

made : (c : goal.After-add_name) → Makes c.self.inside.processes c.self.inside.store (with_place c.self.inside.store c.args.num (present (Fixed c.args.fixed))) c.args.parent c.args.name c.args.num (Make_fixed c.args.parent c.args.name c.args.fixed 0)
made c = makes_fixed c.self.inside.processes c.self.inside.store c.args.self.now c.self.view_is c.args.parent c.args.name c.args.num c.self.invariant c.args.fixed c.requires.fits c.requires.covers

now : (c : goal.After-add_name) → c.add_name.new.self ≡ named_in (with_place c.self.inside.store c.args.num (present (Fixed c.args.fixed))) c.args.parent c.args.name c.args.num
now c = c.add_name.ensures.added ∙ ap (λ t. named_in t c.args.parent c.args.name c.args.num) c.install_as.ensures.installed

pub add_name-requires-clause-room : goal.add_name-requires-clause-room
add_name-requires-clause-room c = λ l is. (makes c).room l (ap (λ (t : Numbers). listing_at t c.args.parent) (sym c.install_as.ensures.installed) ∙ is)

pub add_name-requires-clause-dir : goal.add_name-requires-clause-dir
add_name-requires-clause-dir c = ap (λ (t : Numbers). is_coming (get t.places c.args.parent)) c.install_as.ensures.installed ∙ (makes c).dir

pub add_name-requires-clause-num : goal.add_name-requires-clause-num
add_name-requires-clause-num c = ap (λ (t : Numbers). may_be_named (get t.places c.args.num)) c.install_as.ensures.installed ∙ (makes c).num

pub invariant_of-self : goal.invariant_of-self
invariant_of-self c = subst (Sound c.self.inside.processes) (sym (now c)) (made c).sound

pub returns-clause-state : goal.returns-clause-state
returns-clause-state c =
    let ps = c.self.inside.processes in
    state_is ps ps c.self.inside.store c.args.self.now c.self.view_is (state_of ps c.add_name.new.self) (λ k. tidy (applied (c.args.num ∷ []) (Make_fixed c.args.parent c.args.name c.args.fixed 0) k)) (ap (state_of ps) (now c) ∙ (made c).state)

pub returns-clause-kept : goal.returns-clause-kept
returns-clause-kept c =
    let ps = c.self.inside.processes in let less : Claim → ℕ = λ claim. claimed_by_one claim (c.args.num ∷ []) (Make_fixed c.args.parent c.args.name c.args.fixed 0) in
    subst (λ t. KeepsMore (committed_of ps t) c.args.self.now less) (sym (now c))
    (less_of ps ps c.self.inside.store c.args.self.now c.self.view_is (named_in (with_place c.self.inside.store c.args.num (present (Fixed c.args.fixed))) c.args.parent c.args.name c.args.num) less (made c).kept)

pub install_as-requires-clause-coming : goal.install_as-requires-clause-coming
install_as-requires-clause-coming c = fixed_to_come c.self.inside.processes c.self.inside.store c.args.self.now c.self.view_is c.args.parent c.args.name c.args.num c.self.invariant c.args.fixed c.requires.covers
