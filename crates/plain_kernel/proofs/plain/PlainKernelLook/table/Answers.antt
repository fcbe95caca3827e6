use Rattle.std.proofs.Common.{Option, map, option_copied, ap, sym, ◌∙◌}
use Rattle.std.proofs.lemmas.List.{take_all}
use Rattle.model.specs.FiniteMap.{get, entries}
use Rattle.model.specs.State.{Process}
use Rattle.model.specs.Changes.{or_new}
use Rattle.plain_kernel.proofs.Looking.{no_table, slot_at, slots_more}
use Rattle.plain_kernel.proofs.plain.PlainKernelLook.table.Goals as goal

pub loop-fd-preserved : goal.loop-fd-preserved
loop-fd-preserved c =
    c.in_ok-push.ensures.items
    ∙ slots_more c.args.self.now c.loop-fd.all.items c.as_slice-slots.result.now c.loop-fd.fd-index c.loop-fd-item.result c.in_ok-small.field-0 c.described.result c.loop-fd-test.true c.loop-fd-item.is c.loop-fd.invariant (c.in_ok-small.ensures ∙ c.fd.view_is) c.described.ensures

pub returns : goal.returns
returns c =
    c.loop-fd.invariant
    ∙ ap (map (slot_at c.args.self.now)) (take_all _ _ c.loop-fd-test.false ∙ c.as_slice-slots.ensures ∙ ap (λ p. entries p.table) c.process.view_is
    ∙ ap (λ (o : Option Process). entries (or_new o).table) (c.in-Some.ensures ∙ ap (get c.self.inside.processes) c.key_of.ensures ∙ ap (λ k. get k.processes c.args.pid) c.self.view_is))

pub returns-in_default : goal.returns-in_default
returns-in_default c =
    c.new.ensures.items
    ∙ no_table c.args.self.now c.args.pid (sym (ap option_copied c.in_default.is) ∙ c.get.ensures ∙ ap (get c.self.inside.processes) c.key_of.ensures ∙ ap (λ k. get k.processes c.args.pid) c.self.view_is)
