use Rattle.std.proofs.Common.{sym, ap, ◌∙◌}
use Rattle.freeing_laws.specs.Counts.{unnamed}
use Rattle.plain_kernel.proofs.Setting.{ok_then}
use Rattle.plain_kernel.proofs.free.unnamed.Goals as goal

pub returns-in-UnnameFile : goal.returns-in-UnnameFile
returns-in-UnnameFile c = ok_then c.listed.result c.listed.ensures (λ all h. h ∙ ap unnamed (sym c.in-UnnameFile.is))

pub returns-in-UnnameDirectory : goal.returns-in-UnnameDirectory
returns-in-UnnameDirectory c = ok_then c.listed-in-UnnameDirectory.result c.listed-in-UnnameDirectory.ensures (λ all h. h ∙ ap unnamed (sym c.in-UnnameDirectory.is))
