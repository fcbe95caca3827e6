use Rattle.std.proofs.Common.{◌≤◌, ◌++◌, ap, sym, subst, ◌∙◌}
use Rattle.std.specs.List.{flat_map}
use Rattle.freeing_laws.specs.Counts.{listed}
use Rattle.shadow.specs.Claims.{KeepsMore, claimed_by, claimed_in, kinds_in, with_kinds}
use Rattle.notes.specs.Log.{effect}
use Rattle.notes.specs.Steps.{parents_in}
use Rattle.shadow.proofs.noting.AgreementAfterCall.{can_give}
use Rattle.shadow.proofs.stable.Stable.apply.Goals as goal

-- what was kept for the call is kept still
pub release_claims-requires : goal.release_claims-requires
release_claims-requires c = (
  flat_map kinds_in c.args.edits.items,
  λ claim. subst (λ n. claimed_in claim
      (with_kinds c.as_slice-in-Err.result.now (flat_map kinds_in c.args.edits.items))
      (listed c.parents_of-parents.result.0 ++ listed c.parents_of-parents.result.1) ≤ n) (sym (c.in-Err.ensures.same claim))
      (can_give c.args.self.now c.claim.new.self c.args.edits.items c.in_ok-chosen.chosen
      c.as_slice-in-Err.result.now (listed c.parents_of-parents.result.0 ++ listed c.parents_of-parents.result.1)
      (subst (λ es. KeepsMore c.args.self.now c.claim.new.self
      (λ q. claimed_by q (effect c.in_ok-chosen.chosen es))) c.as_slice-2.ensures.value
      c.in_ok-chosen.ensures.kept)
      c.as_slice-in-Err.ensures
      (c.parents_of-parents.ensures ∙ ap (flat_map parents_in) c.as_slice.ensures.value) claim),
)
