use Rattle.std.proofs.Common.{length, sym, ap, ◌∙◌}
use Rattle.objects.proofs.Pieced.{len_is}
use Rattle.objects.proofs.file.FileData.len.Goals as goal

pub returns-clause-value : goal.returns-clause-value
returns-clause-value c = sym (len_is c.self.inside.pieces c.self.inside.len) ∙ ap (λ f. length f.bytes) c.self.view_is
