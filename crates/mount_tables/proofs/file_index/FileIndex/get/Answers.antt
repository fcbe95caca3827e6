use Rattle.std.proofs.Common.{refl, sym, ap, ◌∙◌}
use Rattle.std.specs.Ordering.{eq_by_cmp}
use Rattle.model.specs.FiniteMap as finite
use Rattle.mount_tables.specs.Files.{Handles}
use Rattle.mount_tables.specs.FileKeys.{key_cmp, key_cmp_total, key_exact}
use Rattle.model.proofs.Laws.{get_at}
use Rattle.mount_tables.proofs.file_index.FileIndex.get.Goals as goal

pub returns : goal.returns
returns c =
    c.copied.ensures ∙ c.get.ensures.value
    ∙ sym (get_at key_cmp_total key_exact (eq_by_cmp key_cmp) (λ x y. refl) c.self.inside.handles.entries c.args.key.now)
    ∙ ap (λ (i : Handles). finite.get i.handles c.args.key.now) c.self.view_is
