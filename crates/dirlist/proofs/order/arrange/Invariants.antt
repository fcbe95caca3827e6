use Rattle.std.proofs.Common.{IsPermutation}
use Rattle.dirlist.proofs.order.arrange.Given as goal

abbrev pub invariant-loop : goal.invariant-loop
invariant-loop l = IsPermutation l.fn.names.items l.names.items
