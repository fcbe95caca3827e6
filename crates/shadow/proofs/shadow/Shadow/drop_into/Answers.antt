use Rattle.std.proofs.Common.{◌≤◌, ◌+◌, sym, ap, subst, ◌∙◌}
use Rattle.shadow.specs.Claims.{claimed, reserved}
use Rattle.shadow.proofs.shadow.Shadow.drop_into.Goals as goal

pub release_all_claims-requires : goal.release_all_claims-requires
release_all_claims-requires c = λ q.
    subst (λ n. n ≤ reserved c.args.stable.now q) (ap (claimed q) (sym c.self.view_is) ∙ c.self.invariant.claims q) (c.requires q)

pub returns-clause-kept : goal.returns-clause-kept
returns-clause-kept c = λ q.
    c.release_all_claims.ensures.kept q ∙ ap (λ n. reserved c.release_all_claims.new.self q + n) (sym (c.self.invariant.claims q) ∙ ap (claimed q) c.self.view_is)
