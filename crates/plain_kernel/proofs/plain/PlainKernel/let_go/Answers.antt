use Rattle.std.proofs.Common.{sym, ap, ◌∙◌}
use Rattle.model.specs.FiniteMap.{get, values}
use Rattle.model.specs.Changes.{or_new}
use Rattle.freeing_laws.specs.Counts.{let_go, listed}
use Rattle.plain_kernel.proofs.Setting.{ok_then}
use Rattle.plain_kernel.proofs.plain.PlainKernel.let_go.Goals as goal

pub returns-in-ShareSlot : goal.returns-in-ShareSlot
returns-in-ShareSlot c = ok_then c.listed.result c.listed.ensures (λ gone h. h ∙ ap listed c.given.ensures ∙ ap (let_go c.args.self.now) (sym c.in-ShareSlot.is))

pub returns-in-ClearSlot : goal.returns-in-ClearSlot
returns-in-ClearSlot c = ok_then c.listed-in-ClearSlot.result c.listed-in-ClearSlot.ensures (λ gone h. h ∙ ap listed c.given-in-ClearSlot.ensures ∙ ap (let_go c.args.self.now) (sym c.in-ClearSlot.is))

pub returns-in-EndProcess : goal.returns-in-EndProcess
returns-in-EndProcess c = ok_then c.values_in.result c.values_in.ensures (λ gone h. h
    ∙ ap (λ o. values (or_new o).table) (c.get.ensures ∙ ap (get c.self.inside.processes) c.key_of.ensures ∙ ap (λ k. get k.processes c.in-EndProcess.process) c.self.view_is)
    ∙ ap (let_go c.args.self.now) (sym c.in-EndProcess.is))
