use Rattle.std.proofs.Common.{◌≡◌, ◌+◌, ◌/◌, ◌<◌, ℕ, length, get_or, take}
use Rattle.ids.specs.declared.limits.TheConstants.{BLOCK_LEN}
use Rattle.file_shadow.specs.Sets.{IsRoomy}
use Rattle.file_shadow.specs.View.{lookup, in_block}
use Rattle.file_shadow.proofs.blocks.BlockSet.lay_over.Given as goal

abbrev pub invariant-loop-i : goal.invariant-loop-i
invariant-loop-i l = record {
  len : length l.file.bytes ≡ length l.fn.file.bytes;
  room : IsRoomy l.self.numbers.items l.file.rooms;
  bytes : (p : ℕ) → p < length l.file.bytes → get_or l.file.bytes p 0 ≡ in_block (lookup ((0 + p) / BLOCK_LEN) (take l.i l.self.numbers.items) (take l.i l.self.blocks.blocks)) (0 + p) (get_or l.fn.file.bytes p 0);
}
