use Rattle.std.proofs.lemmas.Result.{on_ok_weaker}
use Rattle.marked_records.proofs.Marked.{marked_entry, marked_names}
use Rattle.marked_records.proofs.marking.mark.Goals as goal

pub returns-in-Entry-true-clause-ok : goal.returns-in-Entry-true-clause-ok
returns-in-Entry-true-clause-ok c = on_ok_weaker c.hold.result (marked_entry c.args.holders.now c.hold.new.self c.args.pid c.in-Entry-true.dir c.in-Entry-true.field-1-0 c.args.touch.now c.in-Entry-true.is-0 c.in-Entry-true.is-1) c.hold.ensures.ok

pub returns-in-Names-default-clause-ok : goal.returns-in-Names-default-clause-ok
returns-in-Names-default-clause-ok c = on_ok_weaker c.hold-in-Names-default.result (marked_names c.args.holders.now c.hold-in-Names-default.new.self c.args.pid c.in-Names-default.dir c.args.touch.now c.in-Names-default.is-0) c.hold-in-Names-default.ensures.ok
