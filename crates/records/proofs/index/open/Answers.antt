use Rattle.std.proofs.Common.{None}
use Rattle.records.specs.Groups.{with_pid}
use Rattle.records.proofs.Uses.{changed_at, first_sides}
use Rattle.records.proofs.index.open.Goals as goal

pub returns-clause-ok : goal.returns-clause-ok
returns-clause-ok c =
    let updates = rw c.in_ok-aspect.ensures at c.in_ok-insert.ensures.updates in
    changed_at c.args.table.now c.insert.new.self c.args.touch.now (with_pid c.args.pid) None c.join.new.self c.requires
    (first_sides c.none-users.result c.join.new.self c.args.touch.now.write c.args.pid c.none-users.ensures.writers c.none-users.ensures.readers c.in_ok-join.ensures.writers c.in_ok-join.ensures.readers) updates.0
