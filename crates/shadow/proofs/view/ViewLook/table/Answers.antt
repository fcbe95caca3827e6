use Rattle.std.proofs.Common.{◌≡◌, ap, take, ◌∙◌, map}
use Rattle.std.proofs.lemmas.List.{take_all}
use Rattle.model.specs.FiniteMap.{entries}
use Rattle.model.specs.Changes.{process_of}
use Rattle.shadow.proofs.viewing.LookLemmas.{slot_at, slots_more}
use Rattle.shadow.proofs.view.ViewLook.table.Goals as goal

pub loop-fd-preserved : goal.loop-fd-preserved
loop-fd-preserved c =
    c.in_ok-push.ensures.items
    ∙ slots_more c.args.self.now.state c.loop-fd.slots.items c.deref-fd-items.result.now c.loop-fd.fd-index c.loop-fd-item.result c.described.result c.loop-fd-test.true c.loop-fd-item.is c.loop-fd.invariant c.described.ensures

pub returns : goal.returns
returns c =
    let all : take c.loop-fd.fd-index c.deref-fd-items.result.now ≡ entries (process_of c.args.self.now.state c.args.pid).table = take_all _ _ c.loop-fd-test.false ∙ c.deref-fd-items.ensures.value ∙ c.in_ok-entries.ensures in
    c.loop-fd.invariant ∙ ap (map (slot_at c.args.self.now.state)) all
