use Rattle.kernel.proofs.Words.{◌∙◌, ap, tidy, seen_by, moment, fields}
use Rattle.kernel.proofs.Entries.{slot_fits, slot_sees}
use Rattle.kernel.proofs.kernel.Kernel.view.Goals as goal

pub view-requires : goal.view-requires
view-requires c = slot_fits (fields c.self.inside.state) c.self.invariant c.args.pid

pub returns : goal.returns
returns c = ap (λ v. tidy v.state) c.view.ensures.value
    ∙ slot_sees (fields c.self.inside.state) c.self.invariant c.args.pid
    ∙ ap (λ v. seen_by (moment v.log) c.args.pid) c.self.view_is
