use Rattle.std.proofs.Common.{◌-◌, replicate}
use Rattle.file_shadow.specs.View.{IsInOrder}
use Rattle.file_shadow.specs.Steps.{PutsBelow}
use Rattle.file_shadow.specs.Sets.{changed_of, HasRoom, missing}
use Rattle.file_shadow.proofs.blocks.BlockSet.put_zeros.Given as goal

abbrev pub invariant-loop-number : goal.invariant-loop-number
invariant-loop-number l = record {
  order : IsInOrder (changed_of l.self);
  puts : PutsBelow l.number l.offset (replicate l.count 0) (changed_of l.fn.self) (changed_of l.self);
  room : HasRoom l.self (missing (changed_of l.self) l.number (l.last - l.number));
}
