use Rattle.std.proofs.Common.{sym, ap, ◌∙◌}
use Rattle.std.specs.Option.{is_some}
use Rattle.model.specs.FiniteMap.{get}
use Rattle.view_times.specs.Rows.{rows_in}
use Rattle.view_times.proofs.Merging.{merged_nowhere, merged_there}
use Rattle.view_times.proofs.Written.{found, written}
use Rattle.view_times.proofs.everybody.merge_in.Goals as goal

pub returns-in-Some-clause-times : goal.returns-in-Some-clause-times
returns-in-Some-clause-times c = λ q.
    let es = c.args.rows.now.entries in
    let now = c.merged.result in
    written c.args.inode now es (c.get_mut.follows.lender now).entries ((c.get_mut.follows.holds now).3 (ap is_some (sym c.in-Some.ensures.value))).0 q
    ∙ merged_there (rows_in c.args.rows.now) c.args.inode c.args.notes c.in-Some.times.now now (found es c.args.inode ∙ sym c.in-Some.ensures.value) c.merged.ensures q

pub returns-in-None-clause-times : goal.returns-in-None-clause-times
returns-in-None-clause-times c = λ q.
    ap (λ t. get (rows_in t) q) c.get_mut.follows.holds-at-none
    ∙ merged_nowhere (rows_in c.args.rows.now) c.args.inode c.args.notes (found c.args.rows.now.entries c.args.inode ∙ sym c.in-None.ensures.value) q
