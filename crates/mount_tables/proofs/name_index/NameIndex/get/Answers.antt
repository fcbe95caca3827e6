use Rattle.std.proofs.Common.{sym, ap, ◌∙◌}
use Rattle.model.specs.FiniteMap as map
use Rattle.mount_tables.proofs.Named.{name_gives}
use Rattle.mount_tables.proofs.name_index.NameIndex.get.Goals as goal

pub returns : goal.returns
returns c =
    c.copied.ensures ∙ c.get.ensures.value
    ∙ sym (name_gives c.self.inside.numbers c.args.name.now)
    ∙ ap (λ m. map.get m c.args.name.now) c.self.view_is
