use Rattle.std.proofs.Common.{ℕ, ◌<◌, ◌^◌, ◌++◌, length, ap, ◌∙◌, arith}
use Rattle.entry_codec.specs.Parts.{size_bytes, u64_bytes}
use Rattle.entry_codec.proofs.Putting.{all_fit, more_fit, more_put}
use Rattle.entry_codec.proofs.entries.put_nums.Goals as goal

pub loop-num-preserved : goal.loop-num-preserved
loop-num-preserved c = record {
  put = more_put u64_bytes (c.args.out.now.items ++ size_bytes (length c.args.nums.now)) c.args.nums.now c.loop-num.num-index c.num-item.result c.loop-num.out.items c.put_u64.new.out.items (omega arith) c.num-item.is c.loop-num.invariant.put
      (c.in_ok-put_u64.ensures ∙ ap (λ (n : ℕ). c.loop-num.out.items ++ u64_bytes n) c.num.view_is);
  fits = more_fit (λ n. n < 2 ^ 64) c.args.nums.now c.loop-num.num-index c.num-item.result (omega arith) c.num-item.is c.loop-num.invariant.fits (omega arith);
}

pub returns-clause-fits : goal.returns-clause-fits
returns-clause-fits c = all_fit (λ n. n < 2 ^ 64) c.args.nums.now c.loop-num.num-index (omega arith) (omega arith) c.loop-num.invariant.fits
