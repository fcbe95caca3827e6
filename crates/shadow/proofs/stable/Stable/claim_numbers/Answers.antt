use Rattle.std.proofs.Common.{◌+◌, ◌∷◌, sym, ap, subst, ◌∙◌, drop}
use Rattle.shadow.specs.Claims.{AreAdded}
use Rattle.std.proofs.lemmas.List.{drop_more}
use Rattle.shadow.proofs.claims.NewNumbers.{claims_next, may_still_release_claims, same_kept}
use Rattle.shadow.proofs.stable.Stable.claim_numbers.Goals as goal

pub release_claims-requires : goal.release_claims-requires
release_claims-requires c = may_still_release_claims c.args.self.now c.loop-edit.self c.claim_number.new.self c.loop-edit.invariant.done c.loop-edit.chosen c.as_slice.result.now c.loop-edit.invariant.have
    (subst (AreAdded c.loop-edit.self c.claim_number.new.self c.loop-edit.chosen) (sym c.as_slice.ensures) c.in-Err.ensures.err)

pub loop-edit-preserved : goal.loop-edit-preserved
loop-edit-preserved c =
    let es = c.args.edits.now in let i = c.loop-edit.edit-index in
    claims_next c.args.self.now c.loop-edit.self es i c.loop-edit.chosen c.loop-edit.invariant c.claim_number.new.self c.edit-item.result c.claim_number.new.chosen
    (drop_more _ _ c.edit-item.result c.loop-edit-test.true ∙ ap (λ e. e ∷ drop (i + 1) es) (sym c.edit-item.is)) c.in-Ok.ensures.ok c.in-Ok.ensures.state

pub returns-in-Err-clause-err : goal.returns-in-Err-clause-err
returns-in-Err-clause-err c =
    same_kept c.args.self.now c.loop-edit.self c.claim_number.new.self c.loop-edit.invariant.done c.loop-edit.chosen c.as_slice.result.now c.loop-edit.invariant.have
    (subst (AreAdded c.loop-edit.self c.claim_number.new.self c.loop-edit.chosen) (sym c.as_slice.ensures) c.in-Err.ensures.err) c.release_claims.new.self c.release_claims.ensures.kept
