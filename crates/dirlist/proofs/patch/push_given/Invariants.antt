-- The names that were added, and those to be added of what is left, are those of all notes.
use Rattle.std.proofs.Common.{◌≡◌, ◌++◌, map}
use Rattle.std.specs.List.{filter}
use Rattle.std.specs.Option.{is_some}
use Rattle.dirlist.proofs.patch.push_given.Given as goal

abbrev pub invariant-loop-name : goal.invariant-loop-name
invariant-loop-name l =
    l.names.items ++ map (λ e. e.0) (filter (λ e. is_some e.1) l.name-iterator)
    ≡ l.initial.names.items ++ map (λ e. e.0) (filter (λ e. is_some e.1) l.given.entries)
