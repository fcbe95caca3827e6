use Rattle.std.proofs.Common.{refl, ap, ◌∙◌, arith}
use Rattle.std.specs.Ordering.{eq_by_cmp}
use Rattle.mount_tables.specs.Files.{Handles}
use Rattle.mount_tables.specs.FileKeys.{key_cmp, key_cmp_total, key_exact}
use Rattle.model.proofs.Laws.{same_made}
use Rattle.mount_tables.proofs.file_index.FileIndex.reserve.Goals as goal

pub returns-clause-handles : goal.returns-clause-handles
returns-clause-handles c =
    same_made key_cmp_total key_exact (eq_by_cmp key_cmp) (λ x y. refl) c.self.inside.handles.entries c.reserve.new.self.entries c.reserve.ensures.entries.2
    ∙ ap (λ (i : Handles). i.handles) c.self.view_is

pub returns-clause-room : goal.returns-clause-room
returns-clause-room c = omega (arith, ap (λ (i : Handles). i.room) c.self.view_is, c.reserve.ensures.spare)

pub returns-clause-succeeds : goal.returns-clause-succeeds
returns-clause-succeeds c = λ h. c.reserve.ensures.succeeds (omega (arith, ap (λ (i : Handles). i.room) c.self.view_is, h))
