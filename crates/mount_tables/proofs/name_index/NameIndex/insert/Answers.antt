use Rattle.std.proofs.Common.{ap, ◌∙◌}
use Rattle.model.specs.FiniteMap as map
use Rattle.mount_tables.proofs.Named.{name_inserted}
use Rattle.mount_tables.proofs.name_index.NameIndex.insert.Goals as goal

pub returns-clause-ok : goal.returns-clause-ok
returns-clause-ok c =
    let u = c.in_ok-insert.ensures.updates in
    name_inserted c.self.inside.numbers c.insert.new.self c.args.name.items c.args.number u.1 u.3
    ∙ ap (λ m. map.insert m c.args.name.items c.args.number) c.self.view_is
