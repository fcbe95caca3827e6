use Rattle.std.proofs.Common.{◌≡◌, ◌≤◌, refl, length, sym, subst, arith, vec_len}
use Rattle.std.proofs.lemmas.Bool.{false≢true}
use Rattle.history.specs.Log.{kept}
use Rattle.history.proofs.Kept.{kept_are}
use Rattle.history.proofs.History.push.Goals as goal

pub returns-then-len-self-clause-exactly : goal.returns-then-len-self-clause-exactly
returns-then-len-self-clause-exactly c =
    let count : vec_len c.self.inside.entries ≡ length c.self.inside.entries.items = c.self.inside.entries.ok.0 in (
      λ full. subst (λ log. log.limit ≤ length (kept log)) c.self.view_is
          (subst (λ es. c.self.inside.limits.entries ≤ length es) (sym (kept_are c.self.inside.past c.self.inside.entries.items)) (omega (arith, count))),
      λ full. refl,
    )

pub returns-clause-exactly : goal.returns-clause-exactly
returns-clause-exactly c =
    let count : vec_len c.self.inside.entries ≡ length c.self.inside.entries.items = c.self.inside.entries.ok.0 in (
      λ h. absurd (false≢true h),
      λ full.
          let here : c.self.inside.limits.entries ≤ length c.self.inside.entries.items = subst (λ es. c.self.inside.limits.entries ≤ length es) (kept_are c.self.inside.past c.self.inside.entries.items)
          (subst (λ log. log.limit ≤ length (kept log)) (sym c.self.view_is) full) in
          absurd (omega (arith, count)),
    )
