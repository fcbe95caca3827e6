use Rattle.std.proofs.Common.{Some, ap, ◌∙◌}
use Rattle.model.specs.FiniteMap.{get}
use Rattle.model.specs.State.{Description, kind, kind_of, mapped}
use Rattle.model.specs.Calls.{slot_of}
use Rattle.plain_kernel.proofs.Looking.{slot_told}
use Rattle.plain_kernel.proofs.plain.PlainKernel.described.Goals as goal

pub returns-in-Some : goal.returns-in-Some
returns-in-Some c =
    let k = c.args.self.now in
    let inside = c.description.inside in
    let it : Description = record { inode = inside.inode; reading = inside.reading; writing = inside.writing; appending = inside.appending; offset = inside.offset } in
    slot_told k c.args.num it c.kind_in.result
    (ap Some c.description.view_is ∙ c.in-Some.ensures ∙ ap (λ k. get k.descriptions c.args.num) c.self.view_is)
    (c.kind_in.ensures ∙ ap (mapped kind) c.get-in-Some.ensures ∙ ap (λ k. kind_of k inside.inode) c.self.view_is)

pub returns-in-None : goal.returns-in-None
returns-in-None c = ap (slot_of c.args.self.now c.args.num) (c.in-None.ensures ∙ ap (λ k. get k.descriptions c.args.num) c.self.view_is)
