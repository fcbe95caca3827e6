-- The names so far, and what lists show of the others, are all that they show.
use Rattle.std.proofs.Common.{◌≡◌, ◌++◌, drop}
use Rattle.mount_requests.specs.Found.{shown_names}
use Rattle.mount_requests.proofs.lists.copies_shown.Given as goal

abbrev pub invariant-loop-name : goal.invariant-loop-name
invariant-loop-name l = l.names.items ++ shown_names l.fn.node (drop l.name-index l.fn.list) ≡ shown_names l.fn.node l.fn.list
