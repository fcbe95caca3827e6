use Rattle.std.proofs.Common.{◌≡◌, ◌+◌, ◌≤◌, ◌∙◌, ap, arith, take, length, get_or, ℕ}
use Rattle.transcript.specs.Text.{byte_text}
use Rattle.transcript.proofs.Table.{spelled_more, spelled_within}
use Rattle.transcript.proofs.spelling.spell.Goals as goal

pub loop-byte-preserved : goal.loop-byte-preserved
loop-byte-preserved c =
    let byte : ℕ = get_or c.args.bytes.now c.loop-byte.byte-index 0 in
    let is : c.width-end.result ≡ length (byte_text byte) = c.width-end.ensures in
    let kept : length c.loop-byte.out ≡ length c.args.out.now = c.loop-byte.invariant.2 in
    let within : c.loop-byte.end ≤ length c.loop-byte.out = omega (arith, kept, c.requires, c.loop-byte.invariant.1, c.loop-byte-test.true) in
    let longest : length (byte_text byte) ≤ 4 = spelled_within byte in (
      ap (λ (n : ℕ). take (c.loop-byte.end + n) c.put_entry.new.out) is
          ∙ spelled_more (take c.args.offset c.args.out.now) c.loop-byte.out c.put_entry.new.out c.args.bytes.now c.loop-byte.end c.loop-byte.byte-index
          within c.loop-byte-test.true (omega (arith, c.type_inv.bytes c.loop-byte.byte-index)) c.loop-byte.invariant.0 c.put_entry.ensures.entry,
      omega (arith, is, longest, c.loop-byte.invariant.1),
      c.put_entry.ensures.len ∙ kept,
    )
