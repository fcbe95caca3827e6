use Rattle.std.proofs.Common.{◌≡◌, ℕ, sym, ◌∙◌, subst}
use Rattle.list_modes.specs.Holding.{Table, IsBelow, mode_in}
use Rattle.list_modes.proofs.Modes.{mode_counted}
use Rattle.list_modes.proofs.Holders.mode.Goals as goal

pub returns : goal.returns
returns c = subst (λ (t : Table). (n : ℕ) → IsBelow n t → c.mode.result ≡ mode_in t c.args.dir n) c.self.view_is
    (λ n below. c.mode.ensures ∙ sym (mode_counted c.self.inside.marks.entries c.self.inside.counts c.counts_at.result c.args.dir n c.self.invariant c.counts_at.ensures below))
