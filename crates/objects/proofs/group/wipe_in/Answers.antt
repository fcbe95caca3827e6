use Rattle.std.proofs.Common.{List, ℕ, sym, ap, subst, ◌∙◌}
use Rattle.objects.specs.Contents.{Content}
use Rattle.objects.specs.Pieces.{WipedIn}
use Rattle.objects.proofs.Rows.{wiped_whole}
use Rattle.objects.proofs.group.wipe_in.Goals as goal

pub returns-then-goes_whole : goal.returns-then-goes_whole
returns-then-goes_whole c =
    let gone = c.goes_whole.ensures c.if-goes_whole.true in
    subst (λ (bytes : List ℕ). WipedIn c.args.from c.args.to c.args.piece.now.bytes bytes) (sym (ap (λ (run : Content). run.bytes) c.replace.ensures.after ∙ c.new.ensures))
    (wiped_whole c.args.from c.args.to c.args.piece.now.bytes gone.0 gone.1)
