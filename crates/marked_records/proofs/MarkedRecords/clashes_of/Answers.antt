use Rattle.std.proofs.Common.{◌≡◌, ◌+◌, List, ◌∷◌, [], get_or, sym, ◌∙◌, subst}
use Rattle.std.specs.Prelude.{slice_range}
use Rattle.std.specs.Result.{IfOk}
use Rattle.std.proofs.lemmas.Result.{IfOk-weaker}
use Rattle.model.specs.Steps.{Touch}
use Rattle.conflict.specs.declared.found.Clash.{Clash}
use Rattle.conflict.specs.Clashing.{AreClashes}
use Rattle.marked_records.proofs.Dropping.{asked_alone, not_asked, one_touch}
use Rattle.marked_records.proofs.MarkedRecords.clashes_of.Goals as goal

pub returns-then-may_clash : goal.returns-then-may_clash
returns-then-may_clash c = subst (λ (lists : List (List Touch)). IfOk c.clashes.result (λ own. (t : Touch) → t ≡ get_or c.args.touches.now c.args.i t → AreClashes lists c.args.caller (t ∷ []) own.items)) c.self.view_is
    (IfOk-weaker c.clashes.result (λ own. AreClashes c.self.inside.records c.args.caller (slice_range c.args.touches.now c.args.i (c.args.i + 1)) own.items) _ (λ own are t is. asked_alone c.self.inside.records c.args.caller c.args.touches.now c.args.i own.items c.requires are t is) c.clashes.ensures)

pub returns-else-may_clash : goal.returns-else-may_clash
returns-else-may_clash c = λ t is. subst (λ (found : List Clash). AreClashes c.args.self.now c.args.caller (t ∷ []) found) (sym c.new.ensures.items)
    (subst (λ (u : Touch). AreClashes c.args.self.now c.args.caller (u ∷ []) []) (one_touch c.args.touches.now c.args.i c.index-touches-i.result t c.requires c.index-touches-i.is is)
    (not_asked c.args.self.now c.args.caller c.index-touches-i.result (sym c.may_clash.ensures ∙ c.if-may_clash.false)))
