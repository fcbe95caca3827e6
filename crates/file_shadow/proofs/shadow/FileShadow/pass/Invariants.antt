use Rattle.std.proofs.Common.{◌≡◌, ◌+◌, ◌-◌}
use Rattle.model.specs.Holes.{alike_from}
use Rattle.file_shadow.specs.View.{view_over}
use Rattle.file_shadow.proofs.shadow.FileShadow.pass.Given as goal

-- what is passed so far, and what of the rest will be
abbrev pub invariant-loop-passed : goal.invariant-loop-passed
invariant-loop-passed l = alike_from l.fn.holes (view_over l.fn.self l.fn.file.bytes) l.fn.first l.fn.count ≡ l.passed + alike_from l.fn.holes (view_over l.fn.self l.fn.file.bytes) (l.fn.first + l.passed) (l.fn.count - l.passed)
