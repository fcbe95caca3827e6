use Rattle.std.proofs.Common.{◌==◌, ap, ◌∙◌}
use Rattle.std.specs.List.{list_all}
use Rattle.objects.specs.Rows.{ends_row}
use Rattle.file_shadow.proofs.shadow.FileShadow.ends.Goals as goal

pub returns : goal.returns
returns c = c.ends_row.ensures ∙ ap (ends_row c.args.holes) (c.is_zero.ensures ∙ ap (list_all (λ b. b == 0)) (c.as_slice.ensures ∙ c.in_ok-bytes.ensures))
