use Rattle.records.proofs.Entries.{entries_forward}
use Rattle.records.proofs.holders.collect_entries.Goals as goal

pub range-aspect-items-requires : goal.range-aspect-items-requires
range-aspect-items-requires c = rw c.in_ok-copy.ensures (entries_forward c.args.directory)
