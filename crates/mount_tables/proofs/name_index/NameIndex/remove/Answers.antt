use Rattle.std.proofs.Common.{sym, ap, ◌∙◌}
use Rattle.model.specs.FiniteMap as map
use Rattle.mount_tables.proofs.Named.{name_gives, name_removed}
use Rattle.mount_tables.proofs.name_index.NameIndex.remove.Goals as goal

pub returns-clause-numbers : goal.returns-clause-numbers
returns-clause-numbers c =
    let u = c.remove.ensures.updates in
    name_removed c.self.inside.numbers c.remove.new.self c.args.name.now u.1 u.3
    ∙ ap (λ m. map.remove m c.args.name.now) c.self.view_is

pub returns-clause-number : goal.returns-clause-number
returns-clause-number c =
    c.remove.ensures.value
    ∙ sym (name_gives c.self.inside.numbers c.args.name.now)
    ∙ ap (λ m. map.get m c.args.name.now) c.self.view_is
