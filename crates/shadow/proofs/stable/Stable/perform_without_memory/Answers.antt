use Rattle.std.proofs.Common.{ℕ, List, [], refl, sym, subst, ap, ◌∙◌}
use Rattle.model.specs.State.{Kernel}
use Rattle.model.specs.Changes.{Append, Cut, Edit, Set_rights, Take, Wipe, applied, tidy}
use Rattle.call_laws.specs.Fits.{Fits}
use Rattle.shadow.proofs.edits.UnusedNumbers.{none_goes, same_append, same_cut, same_set_rights, same_take, same_wipe}
use Rattle.shadow.proofs.stable.Stable.perform_without_memory.Goals as goal

pub returns-in-Wipe-clause-state : goal.returns-in-Wipe-clause-state
returns-in-Wipe-clause-state c =
    let chosen : List ℕ = c.args.chosen.now in let k : Kernel = c.args.self.now.state in
    c.wipe.ensures.state
    ∙ same_wipe chosen k c.in-Wipe.file c.in-Wipe.offset c.in-Wipe.count
    ∙ none_goes chosen k (Wipe c.in-Wipe.file c.in-Wipe.offset c.in-Wipe.count) c.state_is_tidied.ensures
    (subst (Fits chosen k) c.in-Wipe.is c.requires.fits) refl
    ∙ ap (λ (e : Edit). tidy (applied chosen e k)) (sym c.in-Wipe.is)

pub returns-in-Cut-clause-state : goal.returns-in-Cut-clause-state
returns-in-Cut-clause-state c =
    let chosen : List ℕ = c.args.chosen.now in let k : Kernel = c.args.self.now.state in
    let e : Edit = Cut c.in-Cut.file c.in-Cut.length_before c.in-Cut.length in
    c.cut.ensures.state c.in-Cut.length_before
    ∙ same_cut chosen k c.in-Cut.file c.in-Cut.length_before c.in-Cut.length
    ∙ none_goes chosen k e c.state_is_tidied.ensures
    (subst (Fits chosen k) c.in-Cut.is c.requires.fits) refl
    ∙ ap (λ (e : Edit). tidy (applied chosen e k)) (sym c.in-Cut.is)

pub returns-in-Take-clause-state : goal.returns-in-Take-clause-state
returns-in-Take-clause-state c =
    let chosen : List ℕ = c.args.chosen.now in let k : Kernel = c.args.self.now.state in
    c.take.ensures.state
    ∙ same_take chosen k c.in-Take.pipe c.in-Take.count
    ∙ none_goes chosen k (Take c.in-Take.pipe c.in-Take.count) c.state_is_tidied.ensures
    (subst (Fits chosen k) c.in-Take.is c.requires.fits) refl
    ∙ ap (λ (e : Edit). tidy (applied chosen e k)) (sym c.in-Take.is)

pub returns-in-Append-clause-state : goal.returns-in-Append-clause-state
returns-in-Append-clause-state c =
    let chosen : List ℕ = c.args.chosen.now in let k : Kernel = c.args.self.now.state in
    c.append.ensures.state
    ∙ ap (λ bytes. applied [] (Append c.in-Append.pipe bytes) k) c.as_slice.ensures
    ∙ same_append chosen k c.in-Append.pipe c.in-Append.bytes
    ∙ none_goes chosen k (Append c.in-Append.pipe c.in-Append.bytes) c.state_is_tidied.ensures
    (subst (Fits chosen k) c.in-Append.is c.requires.fits) refl
    ∙ ap (λ (e : Edit). tidy (applied chosen e k)) (sym c.in-Append.is)

pub returns-in-SetRights-clause-state : goal.returns-in-SetRights-clause-state
returns-in-SetRights-clause-state c =
    let chosen : List ℕ = c.args.chosen.now in let k : Kernel = c.args.self.now.state in
    c.set_rights.ensures.state
    ∙ same_set_rights chosen k c.in-SetRights.inode c.in-SetRights.rights
    ∙ none_goes chosen k (Set_rights c.in-SetRights.inode c.in-SetRights.rights)
    c.state_is_tidied.ensures (subst (Fits chosen k) c.in-SetRights.is c.requires.fits) refl
    ∙ ap (λ (e : Edit). tidy (applied chosen e k)) (sym c.in-SetRights.is)
