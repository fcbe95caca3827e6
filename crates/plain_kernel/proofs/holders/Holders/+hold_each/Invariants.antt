use Rattle.std.proofs.Common.{length}
use Rattle.plain_kernel.proofs.holders.Holders.+hold_each.Given as goal

abbrev pub decreases-hold_each : goal.decreases-hold_each
decreases-hold_each l = length l.slots.now
