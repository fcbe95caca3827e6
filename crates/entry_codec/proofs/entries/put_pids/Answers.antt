use Rattle.std.proofs.Common.{ℕ, ◌<◌, ◌^◌, ◌++◌, length, ap, ◌∙◌, arith}
use Rattle.entry_codec.specs.Parts.{size_bytes, u32_bytes}
use Rattle.entry_codec.proofs.Putting.{all_fit, more_fit, more_put}
use Rattle.entry_codec.proofs.entries.put_pids.Goals as goal

pub loop-pid-preserved : goal.loop-pid-preserved
loop-pid-preserved c = record {
  put = more_put u32_bytes (c.args.out.now.items ++ size_bytes (length c.args.pids.now)) c.args.pids.now c.loop-pid.pid-index c.pid-item.result c.loop-pid.out.items c.put_u32.new.out.items (omega arith) c.pid-item.is c.loop-pid.invariant.put
      (c.in_ok-put_u32.ensures ∙ ap (λ (n : ℕ). c.loop-pid.out.items ++ u32_bytes n) c.pid.view_is);
  fits = more_fit (λ n. n < 2 ^ 32) c.args.pids.now c.loop-pid.pid-index c.pid-item.result (omega arith) c.pid-item.is c.loop-pid.invariant.fits (omega arith);
}

pub returns-clause-fits : goal.returns-clause-fits
returns-clause-fits c = all_fit (λ n. n < 2 ^ 32) c.args.pids.now c.loop-pid.pid-index (omega arith) (omega arith) c.loop-pid.invariant.fits
