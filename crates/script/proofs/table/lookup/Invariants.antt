use Rattle.std.proofs.Common.{◌≡◌, drop}
use Rattle.script.specs.Tables.{lookup}
use Rattle.script.proofs.table.lookup.Given as goal

abbrev pub invariant-loop-name : goal.invariant-loop-name
invariant-loop-name g l = lookup l.table l.fn.word ≡ lookup (drop l.name-index l.table) l.fn.word
