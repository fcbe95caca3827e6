use Rattle.std.proofs.Common.{◌≡◌, ◌++◌, drop, Some, []}
use Rattle.std.specs.Prelude.{reverse}
use Rattle.std.specs.List.{flat_map}
use Rattle.model.specs.Plans.{each_once, pipe_in}
use Rattle.calls.proofs.own.pipes_of.Given as goal

abbrev pub invariant-loop-entry : goal.invariant-loop-entry
invariant-loop-entry l = each_once [] (flat_map (λ e. pipe_in (Some e.1)) l.table) ≡ l.pipes ++ each_once (reverse l.pipes) (flat_map (λ e. pipe_in (Some e.1)) (drop l.entry-index l.table))
