use Rattle.std.proofs.Common.{◌+◌, ◌∙◌, ℕ, List, ap, sym, eqb}
use Rattle.std.specs.List.{count_by}
use Rattle.std.proofs.lemmas.List.{take_all}
use Rattle.std.proofs.lemmas.List.Splits.{length-slice_split}
use Rattle.script.proofs.pieces.count_of.Goals as goal

pub returns : goal.returns
returns c =
    c.loop-b.invariant
    ∙ ap (λ (text : List ℕ). count_by (λ b. eqb b c.args.byte) text + 1) (take_all c.loop-b.b-index c.args.text.now c.loop-b-test.false)
    ∙ sym (length-slice_split (λ b. eqb b c.args.byte) c.args.text.now)
