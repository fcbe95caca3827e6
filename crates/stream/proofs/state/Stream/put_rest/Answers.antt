use Rattle.std.proofs.Common.{rules}
use Rattle.transcript.proofs.Laws.{Prints-as, Prints-none}
use Rattle.stream.proofs.Kept.{no_rest, some_rest}
use Rattle.stream.proofs.state.Stream.put_rest.Goals as goal

pub returns-then-not-is_empty : goal.returns-then-not-is_empty
returns-then-not-is_empty g c =
    let stream = c.args.self.now in
    Prints-as c.put_fault_line.ensures
    (some_rest stream.number stream.line.items c.unended_fault.result (search rules) (c.unended_fault.ensures stream.line.items (search rules)))

pub returns-else-not-is_empty : goal.returns-else-not-is_empty
returns-else-not-is_empty g c =
    let stream = c.args.self.now in
    Prints-as (Prints-none _ _ _) (no_rest stream.number stream.line.items (search rules))
