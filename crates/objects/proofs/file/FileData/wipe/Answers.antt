use Rattle.std.proofs.Common.{◌≡◌, ◌+◌, ◌*◌, ◌/◌, ◌<◌, ◌≤◌, ℕ, max, length, replicate, sym, ap, subst, ◌∙◌, arith}
use Rattle.std.proofs.lemmas.List.{length-replicate}
use Rattle.model.specs.Changes.{written}
use Rattle.objects.specs.Pieces.{EndsBy, bytes_of}
use Rattle.objects.specs.declared.group.TheConstants.{PIECE_LEN}
use Rattle.objects.proofs.Writes.{written_all}
use Rattle.objects.proofs.Rows.{wiped_ends, wiped_more}
use Rattle.objects.proofs.file.FileData.wipe.Goals as goal

pub loop-number-preserved : goal.loop-number-preserved
loop-number-preserved c =
    let n = c.loop-number.number in
    let mid = c.loop-number.self-inside.pieces in
    let new = c.wipe.new.self in
    let low = c.max-low.result in
    let high = c.min-high.result in
    let from : c.args.offset / PIECE_LEN ≤ n = c.loop-number.auto.number in
    let to : n * PIECE_LEN < c.args.offset + c.args.count = omega arith in
    record {
      len = c.loop-number.invariant.len;
      ends = wiped_ends c.self.inside.pieces mid new n c.args.offset low high c.args.count c.max-low.ensures c.min-high.ensures from to c.loop-number.invariant.written c.wipe.ensures.here c.wipe.ensures.others
          c.max-self-inside.result c.loop-number.invariant.ends;
      written = wiped_more c.self.inside.pieces mid new n c.args.offset low high c.args.count c.max-low.ensures c.min-high.ensures from to c.loop-number.invariant.written c.wipe.ensures.here c.wipe.ensures.others;
    }

pub returns : goal.returns
returns c =
    let long : length (replicate {A = ℕ} c.args.count 0) ≡ c.args.count = length-replicate {A = ℕ} c.args.count 0 in
    let is_len : c.loop-number.self-inside.len ≡ max c.self.inside.len (c.args.offset + length (replicate {A = ℕ} c.args.count 0)) =
    c.loop-number.invariant.len ∙ c.max-self-inside.ensures ∙ ap (λ n. max c.self.inside.len (c.args.offset + n)) (sym long) in
    subst (λ f. bytes_of c.loop-number.self-inside.pieces c.loop-number.self-inside.len ≡ written f.bytes c.args.offset (replicate c.args.count 0)) c.self.view_is
    (written_all c.self.inside.pieces c.loop-number.self-inside.pieces c.self.inside.len c.loop-number.self-inside.len (c.loop-number.number * PIECE_LEN) c.args.offset (replicate c.args.count 0) is_len (omega (arith, long))
    c.self.invariant.1 (subst (λ n. EndsBy n c.loop-number.self-inside.pieces) (sym c.loop-number.invariant.len) c.loop-number.invariant.ends) c.loop-number.invariant.written)
