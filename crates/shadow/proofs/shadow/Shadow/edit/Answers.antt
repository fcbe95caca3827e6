use Rattle.std.proofs.Common.{ℕ, Vec, List, [], ◌∷◌, ◌++◌, sym, ap, subst, ◌∙◌}
use Rattle.std.specs.List.{AllByRecursion, flat_map}
use Rattle.model.specs.Changes.{Edit}
use Rattle.freeing_laws.specs.Counts.{listed}
use Rattle.shadow.specs.Agrees.{Agrees}
use Rattle.shadow.specs.Claims.{AreUnused, Covers, KeepsMore, claimed_by, kinds_in}
use Rattle.notes.specs.Log.{effect, effects_in}
use Rattle.notes.specs.Steps.{AreApart, TakesAll, parents_in}
use Rattle.shadow.proofs.noting.AgreementAfterCall.{agrees_more, agrees_same, can_give, given_back, unused_claims}
use Rattle.shadow.proofs.shadow.Shadow.edit.Goals as goal

pub invariant_of-self : goal.invariant_of-self
invariant_of-self c =
    let edits : List Edit = c.args.edits.items in
    let chosen : List ℕ = c.in_ok-chosen.chosen in
    let new : AreUnused c.args.stable.now edits chosen = subst (λ es. AreUnused c.args.stable.now es chosen) c.as_slice-2.ensures.value c.in_ok-chosen.ensures.new in
    let covers : Covers c.args.stable.now (effects_in c.self.inside.log) = subst (Covers c.args.stable.now) (sym c.self.view_is) c.requires.covers in
    let apart : AllByRecursion (AreApart chosen) edits = subst (AllByRecursion (AreApart chosen)) c.as_slice-2.ensures.value c.in_ok-chosen.ensures.apart in
    let takes : TakesAll chosen edits c.self.inside.patches c.note.new.self = subst (λ ns. TakesAll ns edits c.self.inside.patches c.note.new.self) c.as_slice-3.ensures c.in-Ok.ensures.ok in
    subst (λ ds. Agrees ds c.note.new.self) (sym (c.add.ensures ∙ ap (λ (v : Vec Edit _). effects_in c.self.inside.log ++ effect c.in_ok-chosen.chosen v.items ∷ []) c.of-logged.ensures))
    (agrees_more (effects_in c.self.inside.log) c.self.inside.patches c.note.new.self chosen edits c.requires.kinds new.count new.different
    (unused_claims c.args.stable.now (effects_in c.self.inside.log) edits chosen covers new) apart takes c.self.invariant)

pub release_claims-requires : goal.release_claims-requires
release_claims-requires c = (
  flat_map kinds_in c.args.edits.items,
  can_give c.args.stable.now c.claim.new.self c.args.edits.items c.in_ok-chosen.chosen c.as_slice-in-Err.result.now (listed c.parents_of-parents.result.0 ++ listed c.parents_of-parents.result.1)
      (subst (λ es. KeepsMore c.args.stable.now c.claim.new.self (λ q. claimed_by q (effect c.in_ok-chosen.chosen es))) c.as_slice-2.ensures.value c.in_ok-chosen.ensures.kept)
      c.as_slice-in-Err.ensures (c.parents_of-parents.ensures ∙ ap (flat_map parents_in) c.as_slice.ensures.value),
)

pub invariant_of-self-in-Err-1 : goal.invariant_of-self-in-Err-1
invariant_of-self-in-Err-1 c = agrees_same (effects_in c.self.inside.log) c.self.inside.patches c.note.new.self c.in-Err.ensures.err c.self.invariant

pub returns-in-Err-clause-same : goal.returns-in-Err-clause-same
returns-in-Err-clause-same c =
    given_back c.args.stable.now c.claim.new.self c.release_claims.new.self c.args.edits.items c.in_ok-chosen.chosen c.as_slice-in-Err.result.now (listed c.parents_of-parents.result.0 ++ listed c.parents_of-parents.result.1)
    (subst (λ es. KeepsMore c.args.stable.now c.claim.new.self (λ q. claimed_by q (effect c.in_ok-chosen.chosen es))) c.as_slice-2.ensures.value c.in_ok-chosen.ensures.kept)
    c.as_slice-in-Err.ensures (c.parents_of-parents.ensures ∙ ap (flat_map parents_in) c.as_slice.ensures.value) c.release_claims.ensures.kept
