-- What contracts see of the position of a worker.
use Rattle.std.specs.Prelude.{option_map}
use Rattle.script.specs.Steps.{ops_for}
use Rattle.workers.specs.declared.position.Position.{Position as Inside}
use Rattle.workers.specs.Rules.{Position}

-- the lines that are left are those of its process in what is left of the script
abbrev pub shown : Inside → Position
shown p = record {
  rest = ops_for p.process p.rest.now;
  busy = p.busy;
  begun = option_map (λ b. (ops_for p.process b.0.now, b.1)) p.begun;
  inside = p.inside;
  mode = p.mode;
}
