use Rattle.std.proofs.Common.{◌++◌, length, arith}
use Rattle.entry_codec.specs.Parts.{size_bytes}
use Rattle.entry_codec.specs.Entries.{entry_bytes, IsEntry}
use Rattle.entry_codec.proofs.Putting.{all_fit, more_fit, more_put}
use Rattle.entry_codec.proofs.entries.put_each.Goals as goal

pub loop-entry-preserved : goal.loop-entry-preserved
loop-entry-preserved c = record {
  put = more_put entry_bytes (c.args.out.now.items ++ size_bytes (length c.args.entries.now)) c.args.entries.now c.loop-entry.entry-index c.entry-item.result c.loop-entry.out.items c.put_fields.new.out.items (omega arith) c.entry-item.is c.loop-entry.invariant.put c.in_ok-put_fields.ensures.put;
  fits = more_fit IsEntry c.args.entries.now c.loop-entry.entry-index c.entry-item.result (omega arith) c.entry-item.is c.loop-entry.invariant.fits c.in_ok-put_fields.ensures.fits;
}

pub returns-clause-fits : goal.returns-clause-fits
returns-clause-fits c = all_fit IsEntry c.args.entries.now c.loop-entry.entry-index (omega arith) (omega arith) c.loop-entry.invariant.fits
