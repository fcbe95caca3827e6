use Rattle.std.proofs.Common.{◌*◌, ◌%◌, ◌==◌, take, drop, ap, ◌∙◌}
use Rattle.std.specs.List.{list_all}
use Rattle.model.specs.Holes.{is_hole}
use Rattle.objects.proofs.Rows.{piece_hole}
use Rattle.objects.proofs.file.FileData.is_hole.Goals as goal

pub returns : goal.returns
returns c =
    c.is_zero.ensures
    ∙ ap (list_all (λ b. b == 0)) (c.part.ensures.value ∙ ap (λ bytes. take 1024 (drop (c.args.block % 15 * 1024) bytes)) c.bytes.ensures)
    ∙ piece_hole c.self.inside.pieces c.self.inside.len c.self.invariant.1 c.args.block
    ∙ ap (λ f. is_hole f.bytes c.args.block) c.self.view_is
