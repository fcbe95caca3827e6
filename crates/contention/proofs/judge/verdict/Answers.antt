use Rattle.std.proofs.Common.{◌≡◌, ◌∙◌, sym, length, []}
use Rattle.std.proofs.lemmas.Bool.{eqb-true}
use Rattle.std.proofs.lemmas.List.{nil_from_length}
use Rattle.contention.proofs.Told.{loses_to_nobody, nobody_told}
use Rattle.contention.proofs.judge.verdict.Goals as goal

pub returns-then-is_empty : goal.returns-then-is_empty
returns-then-is_empty c =
    let none : c.args.clashes.now ≡ [] = nil_from_length c.args.clashes.now (eqb-true (length c.args.clashes.now) 0 (sym c.is_empty.ensures ∙ c.if-is_empty.true)) in
    (loses_to_nobody c.args.rank c.args.ranks.now c.args.clashes.now none, c.new.ensures.items ∙ nobody_told c.args.caller (length c.args.ranks.now) c.args.clashes.now none)
