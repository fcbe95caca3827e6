use Rattle.std.proofs.Common.{refl, ap, ◌∙◌}
use Rattle.std.specs.Ordering.{eq_by_cmp}
use Rattle.model.specs.FiniteMap as finite
use Rattle.mount_tables.specs.Files.{Handles}
use Rattle.mount_tables.specs.FileKeys.{key_cmp, key_cmp_total, key_exact}
use Rattle.model.proofs.Laws.{inserted}
use Rattle.mount_tables.proofs.file_index.FileIndex.insert.Goals as goal

pub returns-clause-ok : goal.returns-clause-ok
returns-clause-ok c =
    inserted key_cmp_total key_exact (eq_by_cmp key_cmp) (λ x y. refl) c.self.inside.handles.entries c.insert.new.self.entries c.args.key c.args.handle c.in_ok-insert.ensures.updates.0
    ∙ ap (λ (i : Handles). finite.insert i.handles c.args.key c.args.handle) c.self.view_is
