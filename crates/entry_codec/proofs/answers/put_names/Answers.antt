use Rattle.std.proofs.Common.{List, ℕ, ◌++◌, length, ap, subst, ◌∙◌, arith}
use Rattle.entry_codec.specs.Parts.{size_bytes, text_bytes, IsText}
use Rattle.entry_codec.proofs.Putting.{all_fit, more_fit, more_put}
use Rattle.entry_codec.proofs.answers.put_names.Goals as goal

pub loop-name-preserved : goal.loop-name-preserved
loop-name-preserved c = record {
  put = more_put text_bytes (c.args.out.now.items ++ size_bytes (length c.args.names.now)) c.args.names.now c.loop-name.name-index c.name-item.result c.loop-name.out.items c.put_text.new.out.items (omega arith) c.name-item.is c.loop-name.invariant.put
      (c.in_ok-put_text.ensures.put ∙ ap (λ (text : List ℕ). c.loop-name.out.items ++ text_bytes text) c.as_slice.ensures);
  fits = more_fit IsText c.args.names.now c.loop-name.name-index c.name-item.result (omega arith) c.name-item.is c.loop-name.invariant.fits (subst (λ (text : List ℕ). IsText text) c.as_slice.ensures c.in_ok-put_text.ensures.fits);
}

pub returns-clause-fits : goal.returns-clause-fits
returns-clause-fits c = all_fit IsText c.args.names.now c.loop-name.name-index (omega arith) (omega arith) c.loop-name.invariant.fits
