use Rattle.std.proofs.Common.{◌≡◌, ◌+◌, ◌-◌, ◌*◌, ◌/◌, ◌<◌, ◌≤◌, ℕ, List, length, replicate, take, drop, sym, ap, subst, ◌∙◌, arith}
use Rattle.std.proofs.lemmas.List.{length-replicate}
use Rattle.ids.specs.declared.limits.TheConstants.{BLOCK_LEN}
use Rattle.file_shadow.specs.View.{ChangedBlocks, block_of}
use Rattle.file_shadow.specs.Steps.{PutsBelow, end_block}
use Rattle.file_shadow.specs.Sets.{changed_of, HasRoom, need, missing}
use Rattle.file_shadow.proofs.Missing.{missing_next, missing_same, room_less}
use Rattle.file_shadow.proofs.Ends.{ends, reaches}
use Rattle.file_shadow.proofs.Chunks.{puts_more, zeros_part}
use Rattle.file_shadow.proofs.blocks.BlockSet.put_zeros.Goals as goal

pub put_chunk-requires-clause-room : goal.put_chunk-requires-clause-room
put_chunk-requires-clause-room c =
    let d : ChangedBlocks = changed_of c.loop-number.self in
    let k : ℕ = c.loop-number.number in
    let next : missing d k (c.end_block-last.result - k) ≡ need (block_of d k) + missing d (k + 1) (c.end_block-last.result - k - 1) = missing_next d k (c.end_block-last.result - k) (omega arith) in
    let room : HasRoom c.loop-number.self (need (block_of d k)) = room_less c.loop-number.self (need (block_of d k)) (missing d (k + 1) (c.end_block-last.result - k - 1)) (subst (HasRoom c.loop-number.self) next c.loop-number.invariant.room) in
    let is : k ≡ c.max-low.result / BLOCK_LEN = omega (arith, c.max-low.ensures) in
    subst (λ q. HasRoom c.loop-number.self (need (block_of d q))) is room

pub loop-number-preserved : goal.loop-number-preserved
loop-number-preserved c =
    let d : ChangedBlocks = changed_of c.loop-number.self in
    let new : ChangedBlocks = changed_of c.put_chunk.new.self in
    let k : ℕ = c.loop-number.number in
    let last : ℕ = c.end_block-last.result in
    let offset : ℕ = c.args.offset in
    let bytes : List ℕ = replicate c.args.count 0 in
    let many : length bytes ≡ c.args.count = length-replicate {A = ℕ} c.args.count 0 in
    let short : k < end_block offset c.args.count = omega (arith, c.end_block-last.ensures.value) in
    let inside : k * BLOCK_LEN < offset + c.args.count = reaches offset c.args.count (end_block offset c.args.count) k (ends offset c.args.count) c.loop-number.auto.number short in
    let chunk : c.part.result.now ≡ take (c.min-high.result - c.max-low.result) (drop (c.max-low.result - offset) bytes) =
    c.part.ensures.value ∙ zeros_part (c.min-high.result - c.max-low.result) BLOCK_LEN (c.max-low.result - offset) c.args.count (omega (arith, c.max-low.ensures, c.min-high.ensures)) (omega (arith, c.max-low.ensures, c.min-high.ensures, inside)) in
    let puts : PutsBelow (k + 1) offset bytes (changed_of c.args.self.now) new =
    puts_more k offset bytes (changed_of c.args.self.now) d new c.max-low.result c.min-high.result c.part.result.now
    c.max-low.ensures (omega (arith, c.min-high.ensures, many)) chunk c.loop-number.auto.number (omega (arith, inside, many)) c.loop-number.invariant.puts c.put_chunk.ensures.puts in
    let next : missing d k (last - k) ≡ need (block_of d k) + missing d (k + 1) (last - k - 1) = missing_next d k (last - k) (omega arith) in
    let left : last - k - 1 ≡ last - (k + 1) = omega arith in
    let is : k ≡ c.max-low.result / BLOCK_LEN = omega (arith, c.max-low.ensures) in
    let rest : missing d (k + 1) (last - k - 1) ≡ missing new (k + 1) (last - (k + 1)) =
    ap (missing d (k + 1)) left ∙ sym (missing_same new d (k + 1) (last - (k + 1)) (λ q from. c.put_chunk.ensures.puts.others q (omega arith))) in
    let room : HasRoom c.loop-number.self (need (block_of d (c.max-low.result / BLOCK_LEN)) + missing new (k + 1) (last - (k + 1))) =
    subst (λ n. HasRoom c.loop-number.self (need (block_of d (c.max-low.result / BLOCK_LEN)) + n)) rest
    (subst (λ q. HasRoom c.loop-number.self (need (block_of d q) + missing d (k + 1) (last - k - 1))) is (subst (HasRoom c.loop-number.self) next c.loop-number.invariant.room)) in
    record {
      order = c.put_chunk.ensures.order;
      puts = puts;
      room = c.put_chunk.ensures.room (missing new (k + 1) (last - (k + 1))) room;
    }
