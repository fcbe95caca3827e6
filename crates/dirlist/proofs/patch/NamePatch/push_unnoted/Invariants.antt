-- The names that were added, and those to be added of what is left, are those of the whole table.
use Rattle.std.proofs.Common.{◌≡◌, ◌++◌}
use Rattle.std.specs.HashMap.{keys}
use Rattle.std.specs.List.{filter}
use Rattle.std.specs.Option.{is_none}
use Rattle.model.specs.FiniteMap as finite
use Rattle.dirlist.proofs.patch.NamePatch.push_unnoted.Given as goal

abbrev pub invariant-loop-name : goal.invariant-loop-name
invariant-loop-name l =
    l.names.items ++ filter (λ x. is_none (finite.get l.self x)) l.name-iterator
    ≡ l.initial.names.items ++ filter (λ x. is_none (finite.get l.self x)) (keys l.numbers)
