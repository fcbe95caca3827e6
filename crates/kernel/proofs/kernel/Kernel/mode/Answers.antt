use Rattle.model.specs.Modes.{mode_of}
use Rattle.kernel.proofs.Words.{◌∙◌, ap, moment, Part}
use Rattle.kernel.proofs.kernel.Kernel.mode.Goals as goal

pub returns : goal.returns
returns c =
    c.mode.ensures.mode (moment c.self.inside.state.history) (record { count = c.self.invariant.held_count; each = λ q. ap (λ (p : Part). p.held) (c.self.invariant.parts q) })
    ∙ ap (λ v. mode_of (moment v.log) c.args.dir) c.self.view_is
