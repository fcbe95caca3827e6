use Rattle.std.proofs.Common.{◌≡◌, ◌≤◌, length, sym, subst, arith, vec_len}
use Rattle.history.specs.Log.{kept}
use Rattle.history.proofs.Kept.{kept_are}
use Rattle.history.proofs.History.limit.Goals as goal

pub returns-clause-within : goal.returns-clause-within
returns-clause-within c =
    let count : vec_len c.self.inside.entries ≡ length c.self.inside.entries.items = c.self.inside.entries.ok.0 in
    subst (λ log. length (kept log) ≤ c.self.inside.limits.entries) c.self.view_is
    (subst (λ es. length es ≤ c.self.inside.limits.entries) (sym (kept_are c.self.inside.past c.self.inside.entries.items)) (omega (arith, count, c.self.invariant.0)))
