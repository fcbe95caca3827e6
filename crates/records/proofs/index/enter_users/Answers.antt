use Rattle.std.proofs.Common.{◌≡◌, sym, ap, Some}
use Rattle.std.specs.Option.{is_some}
use Rattle.std.specs.Ordering.{eq_by_cmp}
use Rattle.std.specs.HashMap.{get}
use Rattle.ids.specs.Order.{aspect_cmp}
use Rattle.records.specs.Groups.{with_pid}
use Rattle.records.proofs.Uses.{changed_at, same_at, joined_sides, same_sides, both_ok, both_err}
use Rattle.records.proofs.index.enter_users.Goals as goal

pub returns-in-Some-clause-ok : goal.returns-in-Some-clause-ok
returns-in-Some-clause-ok c =
    let was : get (eq_by_cmp aspect_cmp) c.args.table.now c.args.touch.now.aspect ≡ Some c.in-Some.users.now = sym c.in-Some.ensures.value in
    both_ok c.join.result _ _ _
    (λ w r. changed_at c.args.table.now (c.get_mut.follows.lender c.join.new.self) c.args.touch.now (with_pid c.args.pid) (Some c.in-Some.users.now) c.join.new.self was
    (joined_sides c.in-Some.users.now c.join.new.self c.args.touch.now.write c.args.pid w r)
    ((c.get_mut.follows.holds c.join.new.self).3 (ap is_some was)).0)
    c.join.ensures.writers c.join.ensures.readers

pub returns-in-Some-clause-err : goal.returns-in-Some-clause-err
returns-in-Some-clause-err c =
    let was : get (eq_by_cmp aspect_cmp) c.args.table.now c.args.touch.now.aspect ≡ Some c.in-Some.users.now = sym c.in-Some.ensures.value in
    both_err c.join.result _ _ _
    (λ w r. same_at c.args.table.now (c.get_mut.follows.lender c.join.new.self) c.args.touch.now (Some c.in-Some.users.now) c.join.new.self was
    (same_sides c.in-Some.users.now c.join.new.self w r)
    ((c.get_mut.follows.holds c.join.new.self).3 (ap is_some was)).0)
    c.join.ensures.same_writers c.join.ensures.same_readers
