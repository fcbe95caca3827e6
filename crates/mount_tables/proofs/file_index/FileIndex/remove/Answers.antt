use Rattle.std.proofs.Common.{refl, ap, ◌∙◌}
use Rattle.std.specs.Ordering.{eq_by_cmp}
use Rattle.model.specs.FiniteMap as finite
use Rattle.mount_tables.specs.Files.{Handles}
use Rattle.mount_tables.specs.FileKeys.{key_cmp, key_cmp_total, key_exact}
use Rattle.model.proofs.Laws.{removed}
use Rattle.mount_tables.proofs.file_index.FileIndex.remove.Goals as goal

pub returns-clause-handles : goal.returns-clause-handles
returns-clause-handles c =
    removed key_cmp_total key_exact (eq_by_cmp key_cmp) (λ x y. refl) c.self.inside.handles.entries c.remove.new.self.entries c.args.key.now c.remove.ensures.updates.0
    ∙ ap (λ (i : Handles). finite.remove i.handles c.args.key.now) c.self.view_is
