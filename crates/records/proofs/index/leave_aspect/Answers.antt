use Rattle.std.proofs.Common.{◌≡◌, sym, ap, Some}
use Rattle.std.specs.Option.{is_some}
use Rattle.std.specs.Ordering.{eq_by_cmp}
use Rattle.std.specs.HashMap.{get}
use Rattle.ids.specs.Order.{aspect_cmp}
use Rattle.records.specs.Groups.{without_pid}
use Rattle.records.proofs.Uses.{changed_at, left_sides, absent_at}
use Rattle.records.proofs.index.leave_aspect.Goals as goal

pub returns-in-Some-clause-users : goal.returns-in-Some-clause-users
returns-in-Some-clause-users c =
    let was : get (eq_by_cmp aspect_cmp) c.args.table.now c.args.touch.now.aspect ≡ Some c.in-Some.users.now = sym c.in-Some.ensures.value in
    changed_at c.args.table.now (c.get_mut.follows.lender c.leave.new.self) c.args.touch.now (without_pid c.args.pid) (Some c.in-Some.users.now) c.leave.new.self was
    (left_sides c.in-Some.users.now c.leave.new.self c.args.touch.now.write c.args.pid c.leave.ensures.writers c.leave.ensures.readers)
    ((c.get_mut.follows.holds c.leave.new.self).3 (ap is_some was)).0

pub returns-in-None-clause-users : goal.returns-in-None-clause-users
returns-in-None-clause-users c = absent_at c.args.table.now c.get_mut.follows.lender-at-none c.args.touch.now c.args.pid (sym c.in-None.ensures.value) c.get_mut.follows.holds-at-none
