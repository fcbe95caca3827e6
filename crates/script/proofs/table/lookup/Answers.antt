use Rattle.std.proofs.Common.{rules, ◌≡◌, true, false, sym, ◌∙◌}
use Rattle.std.specs.Str.{bytes_eq}
use Rattle.script.proofs.Tables.{found, passed}
use Rattle.script.proofs.table.lookup.Goals as goal

pub returns-then-eq : goal.returns-then-eq
returns-then-eq g c =
    let e = c.loop-name-item.result in
    let same : bytes_eq c.args.word.now e.0.now ≡ true = search rules in
    sym (c.loop-name.invariant ∙ found c.args.table.now c.loop-name.name-index e c.args.word.now c.loop-name-test.true c.loop-name-item.is same)

pub loop-name-preserved : goal.loop-name-preserved
loop-name-preserved g c =
    let e = c.loop-name-item.result in
    let other : bytes_eq c.args.word.now e.0.now ≡ false = search rules in
    c.loop-name.invariant ∙ passed c.args.table.now c.loop-name.name-index e c.args.word.now c.loop-name-test.true c.loop-name-item.is other
